-- What a line of a ladder's input asks for: LOCATOR CLASS CODE SEATS, as `A00001 Y NN 6`, or AU ENTRY, as `AU M007/004`.
use Rattle.std.specs.Prelude.{◌≡◌, ◌≤◌, ℕ, ◌-◌, Bool, ◌&&◌, ◌==◌, nat_le, nat_lt, List, [], ◌∷◌, length, slice_index_or, codes, Option, Some, None, Result, Ok, Err, if◌then◌else◌}
use Rattle.std.specs.Char.{is_ascii_digit, is_ascii_uppercase}
use Rattle.std.specs.List.{list_all}
use Rattle.std.specs.Str.Parse.{digits_value}
use Rattle.airline_base.specs.Bytes.{field}
use Rattle.airline_base.specs.Fields.{word_at}
use Rattle.airline_base.specs.Names.{is_locator, is_code}
use Rattle.airline_base.specs.declared.place.Place.{Place}
use Rattle.seat_journal.specs.declared.entry.Change.{Change}
use Rattle.seat_journal.specs.declared.entry.Command.{Command}
use Rattle.seat_journal.specs.declared.entry.Work.{Work}
use Rattle.seat_journal.specs.declared.entry.Work.TheVariants.{Seats, Limit, Sale}
use Rattle.seat_limits.specs.LadderText.{ladder_in}
use Rattle.seat_nesting.specs.Nesting.{Steps}
use Rattle.seat_nesting.specs.declared.ladder.Step.{Step}
use Rattle.seat_limits.specs.declared.limit_fault.LimitKind.{LimitKind}

-- one to three digits of value 1 or more
unfoldable pub seats_in : List ℕ → Option ℕ
seats_in digits =
    (if nat_le 1 (length digits) && nat_le (length digits) 3 && list_all is_ascii_digit digits
    && nat_lt 0 (digits_value 10 digits)
    then Some (digits_value 10 digits) else None)

-- the only leg of the only flight
abbrev pub only_leg : Place
only_leg = record { flight = 0; from = 0; to = 0 }

-- ---- a command

-- the command of these parts, if each of them is there
abbrev pub command_of : Option (List ℕ) → Option ℕ → Option (List ℕ) → Option ℕ → Option Work
command_of (Some locator) (Some class) (Some code) (Some seats) =
    Some (Seats (record { locator = locator; place = Some only_leg; class = class; code = code; seats = seats }))
command_of _ _ _ _ = None

abbrev pub locator_in : List ℕ → Option (List ℕ)
locator_in text = (if is_locator text then Some text else None)

abbrev pub class_in : ℕ → Option ℕ
class_in letter = (if is_ascii_uppercase letter then Some letter else None)

abbrev pub code_in : List ℕ → Option (List ℕ)
code_in text = (if is_code text then Some text else None)

abbrev pub is_blank : ℕ → List ℕ → Bool
is_blank at line = slice_index_or line (at - 1) 0 == 32

-- bytes 1 to 6 a locator, 8 a class, 10 and 11 a code, from 13 on the seats
unfoldable pub parts_in : List ℕ → Option Work
parts_in line =
    command_of (locator_in (field 1 6 line)) (class_in (slice_index_or line 7 0)) (code_in (field 10 11 line))
    (seats_in (field 13 (length line) line))

-- and single blanks between them
unfoldable pub command_in : List ℕ → Option Work
command_in line =
    (if nat_le 13 (length line) && is_blank 7 line && is_blank 9 line && is_blank 12 line then parts_in line else None)

-- ---- a change of a limit

-- the limit and the wait of a step, for its class on the only leg
abbrev pub change_to : Step → Change
change_to s = record { flight = 0; leg = 0; class = s.class; limit = s.limit; wait = s.wait }

-- of one step without the mark, and no more
abbrev pub change_of : Steps → Option Work
change_of (s ∷ []) = if s.listed then None else Some (Limit (change_to s))
change_of _ = None

abbrev pub change_if : Result Steps LimitKind → Option Work
change_if (Err kind) = None
change_if (Ok steps) = change_of steps

-- a ladder of one entry
abbrev pub change_in : List ℕ → Option Work
change_in entry = change_if (ladder_in entry)

-- ---- the line

-- what stands behind AU and a blank is an entry; without them the line is a command
abbrev pub order_by : Option (List ℕ) → List ℕ → Option Work
order_by (Some entry) line = change_in entry
order_by None line = command_in line

abbrev pub order_in : List ℕ → Option Work
order_in line = order_by (word_at (codes "AU ") line) line

-- ---- what every order is

-- 1 to 999 seats on the only leg
pub record IsCommandHere (c : Command) : Type 0 where
  pub some : 1 ≤ c.seats
  pub most : c.seats ≤ 999
  pub place : c.place ≡ Some only_leg

-- a limit and a wait of at most 999 on the only leg
pub record IsChangeHere (c : Change) : Type 0 where
  pub flight : c.flight ≡ 0
  pub leg : c.leg ≡ 0
  pub limit : c.limit ≤ 999
  pub wait : c.wait ≤ 999

-- no line of a ladder's input closes or opens a class
abbrev pub IsOrder : Work → Type 0
IsOrder (Seats c) = IsCommandHere c
IsOrder (Limit c) = IsChangeHere c
IsOrder (Sale c) = ⊥
