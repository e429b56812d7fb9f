-- The line of a live booking in a report.
use Rattle.std.specs.Prelude.{◌≡◌, ℕ, Bool, true, false, List, [], ◌∷◌, ◌++◌, decimal, codes, Option, Some, None}
use Rattle.airimp_lines.specs.Grammar.{IsPlainLine}
use Rattle.airimp_lines.specs.declared.segment.Segment.{Segment}
use Rattle.ssim_flights.specs.declared.flight.Flight.{Flight as Flown}
use Rattle.ssim_flights.specs.declared.flight.Wanted.{Wanted}
use Rattle.seat_lists.specs.Named.{status_code}
use Rattle.seat_moving.specs.Moving.{name_of}
use Rattle.seat_rules.specs.declared.booking.Booking.{Booking}
use Rattle.carry_reports.specs.Codes.{asked_code, code_of, word_text}
use Rattle.carry_reports.specs.Numbers.{number_text}
use Rattle.carry_reports.specs.declared.fating.Asked.{Asked as AskedFor}
use Rattle.carry_reports.specs.declared.fating.Fate.{Fate}
use Rattle.carry_reports.specs.declared.fating.Fate.TheVariants.{Departed, Unserved, Unsold, Asked}
use Rattle.carry_reports.specs.declared.fating.Fated.{Fated}

-- the segment of a booking on the place of this name, with this code
abbrev pub segment_of : Wanted → Booking → List ℕ → Segment
segment_of name b code = record {
  airline = name.airline;
  number = name.number;
  suffix = name.suffix;
  class = b.class;
  day = name.day;
  board = name.board;
  off = name.off;
  code = code;
  seats = b.seats;
}

-- written as in a reply, or a dash where the flights have no such place
abbrev pub IsSegment : Option Wanted → Booking → List ℕ → List ℕ → Type 0
IsSegment None b code text = text ≡ codes "-"
IsSegment (Some name) b code text = IsPlainLine (segment_of name b code) text

-- its old number, of journals that have so many lines, its locator, and its segment with HK where it held or HL where it waited
pub record IsOld (counts : List ℕ) (olds : List Flown) (b : Booking) (text : List ℕ) : Type 0 where
  pub segment : List ℕ
  pub is_segment : IsSegment (name_of olds b.place) b (status_code b.status) segment
  pub written : text ≡ number_text counts b.number ++ codes " " ++ b.locator ++ codes " " ++ segment

abbrev pub in_class : ℕ → Booking → Booking
in_class class b = record b { class = class }

-- of one that goes elsewhere the old segment is UN
abbrev pub front_text : Bool → List ℕ
front_text true = codes "UN "
front_text false = []

-- its new number, and its new segment with the code for what became of it
pub record IsAsked (news : List Flown) (b : Booking) (a : AskedFor) (text : List ℕ) : Type 0 where
  pub segment : List ℕ
  pub is_segment : IsSegment (name_of news a.place) (in_class a.class b) (asked_code b.status a) segment
  pub written : text ≡ front_text a.elsewhere ++ decimal a.line ++ codes " " ++ segment

abbrev pub IsNewBy : Fate → List Flown → Booking → List ℕ → List ℕ → Type 0
IsNewBy (Asked a) news b word text = IsAsked news b a text
IsNewBy Departed news b word text = text ≡ word
IsNewBy Unserved news b word text = text ≡ word
IsNewBy Unsold news b word text = text ≡ word

-- what it is, or why it is no more
abbrev pub IsNew : List Flown → Fated → List ℕ → Type 0
IsNew news f text = IsNewBy f.fate news f.booking (word_text (code_of f)) text

-- what it was, an arrow, what it is, and LF
pub record IsFatedLine (counts : List ℕ) (olds news : List Flown) (f : Fated) (line : List ℕ) : Type 0 where
  pub old : List ℕ
  pub new : List ℕ
  pub is_old : IsOld counts olds f.booking old
  pub is_new : IsNew news f new
  pub written : line ≡ old ++ codes " -> " ++ new ++ codes "\n"

-- ---- the parts of the text

pub record IsSegmentPut (name : Option Wanted) (b : Booking) (code old new : List ℕ) : Type 0 where
  pub part : List ℕ
  pub is_segment : IsSegment name b code part
  pub written : new ≡ old ++ part

pub record IsOldPut (counts : List ℕ) (olds : List Flown) (b : Booking) (old new : List ℕ) : Type 0 where
  pub part : List ℕ
  pub is_old : IsOld counts olds b part
  pub written : new ≡ old ++ part

pub record IsAskedPut (news : List Flown) (b : Booking) (a : AskedFor) (old new : List ℕ) : Type 0 where
  pub part : List ℕ
  pub is_asked : IsAsked news b a part
  pub written : new ≡ old ++ part

pub record IsNewPut (news : List Flown) (f : Fated) (old new : List ℕ) : Type 0 where
  pub part : List ℕ
  pub is_new : IsNew news f part
  pub written : new ≡ old ++ part
