-- The grammar of segment lines (AIRIMP), apart from how one is read. The single blanks, the suffix, the tail and the
-- choice of the year are this product's own.
use Rattle.std.specs.Prelude.{◌^◌, decimal, ◌≡◌, ℕ, ◌≤◌, ◌<◌, IsTrue, List, [], ◌∷◌, ◌++◌, length, Option, IfSome}
use Rattle.std.specs.Char.{is_ascii_uppercase}
use Rattle.airline_base.specs.Names.{is_airline, is_station, is_code}
use Rattle.airline_base.specs.Days.{IsDate, day_month}
use Rattle.airline_base.specs.Fields.{IsNumberText, suffix_text}
use Rattle.airimp_lines.specs.Fields.{is_tail}
use Rattle.airimp_lines.specs.declared.segment.Segment.{Segment}
use Rattle.airimp_lines.specs.declared.segment.Undated.{Undated}

-- a suffix, where there is one, and a class
abbrev pub letters_text : Option ℕ → ℕ → List ℕ
letters_text suffix class = suffix_text suffix ++ class ∷ []

-- airline, number, suffix, class, day and month, a blank, board and off point, a blank, code, seats, tail
pub record Spells (line : List ℕ) (u : Undated) : Type 0 where
  pub number : List ℕ
  pub seats : List ℕ
  pub tail : List ℕ
  pub text : line ≡ u.airline ++ (number
      ++ (letters_text u.suffix u.class
      ++ (day_month u.day u.month ++ (32 ∷ (u.board ++ (u.off ++ (32 ∷ (u.code ++ (seats ++ tail)))))))))
  pub long : 20 ≤ length line
  pub short : length line ≤ 69
  pub is_airline : IsTrue (is_airline u.airline)
  pub is_number : IsNumberText 4 number u.number
  pub is_suffix : IfSome u.suffix (λ c. IsTrue (is_ascii_uppercase c))
  pub is_class : IsTrue (is_ascii_uppercase u.class)
  pub is_board : IsTrue (is_station u.board)
  pub is_off : IsTrue (is_station u.off)
  pub is_code : IsTrue (is_code u.code)
  pub is_seats : IsNumberText 3 seats u.seats
  pub is_tail : IsTrue (is_tail tail)

-- the earliest date with this day and month on or after today
pub record IsNextDate (today day month n : ℕ) : Type 0 where
  pub year : ℕ
  pub date : IsDate year month day n
  pub after : today ≤ n
  pub first : (y k : ℕ) → IsDate y month day k → today ≤ k → n ≤ k

-- the segment without its year
abbrev pub undated_of : ℕ → ℕ → Segment → Undated
undated_of day month s = record {
  airline = s.airline;
  number = s.number;
  suffix = s.suffix;
  class = s.class;
  day = day;
  month = month;
  board = s.board;
  off = s.off;
  code = s.code;
  seats = s.seats;
}

-- the line spells the segment for that day of reference
pub record SpellsSegment (today : ℕ) (line : List ℕ) (s : Segment) : Type 0 where
  pub day : ℕ
  pub month : ℕ
  pub date : IsNextDate today day month s.day
  pub spelled : Spells line (undated_of day month s)

-- no line spells two segments on one day
abbrev pub OneSegment : Type 0
OneSegment = (today : ℕ) (line : List ℕ) (s t : Segment) → SpellsSegment today line s → SpellsSegment today line t
    → s ≡ t

-- the line of a segment without leading zeros and without a tail
abbrev pub plain_line : ℕ → ℕ → Segment → List ℕ
plain_line day month s =
    s.airline ++ (decimal s.number ++
    (letters_text s.suffix s.class ++
    (day_month day month ++ (32 ∷ (s.board ++ (s.off ++ (32 ∷ (s.code ++ decimal s.seats))))))))

-- a number of one to four digits above 0, and a letter as the suffix, if there is one
pub record IsWritable (s : Segment) : Type 0 where
  pub number : (0 < s.number) × (s.number < 10 ^ 4)
  pub suffix : IfSome s.suffix (λ c. IsTrue (is_ascii_uppercase c))

-- and 1 to 999 seats
pub record IsRightSegment (s : Segment) : Type 0 where
  pub writable : IsWritable s
  pub seats : (0 < s.seats) × (s.seats < 10 ^ 3)

-- the text says the segment, and its day
pub record IsPlainLine (s : Segment) (text : List ℕ) : Type 0 where
  pub year : ℕ
  pub month : ℕ
  pub day : ℕ
  pub date : IsDate year month day s.day
  pub written : text ≡ plain_line day month s

-- the segment with another code and number of seats
abbrev pub reply_of : Segment → List ℕ → ℕ → Segment
reply_of s code seats = record s { code = code; seats = seats }
