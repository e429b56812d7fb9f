-- The rows of changes, and what they ask of the inventory.
use Rattle.std.specs.Prelude.{◌≡◌, ◌≤◌, ◌<◌, ◌+◌, ◌==◌, ◌&&◌, nat_eq, ℕ, Bool, List, [], ◌∷◌, ◌++◌, length, slice_get, Option, Some, None, Err, if◌then◌else◌}
use Rattle.std.specs.Cmp.Lexicographic.{pointwise}
use Rattle.std.specs.Option.{option_eq}
use Rattle.std.specs.Str.Lines.{lines}
use Rattle.airline_base.specs.declared.place.Place.{Place}
use Rattle.ssim_flights.specs.Places.{place_wanted}
use Rattle.ssim_flights.specs.declared.flight.DatedLeg.{DatedLeg}
use Rattle.ssim_flights.specs.declared.flight.Flight.{Flight as Flown}
use Rattle.ssim_flights.specs.declared.flight.Wanted.{Wanted}
use Rattle.seat_limits.specs.ChangeRows.{IsChangeText, changes_in}
use Rattle.seat_limits.specs.declared.change_row.ChangeRow.{ChangeRow}
use Rattle.seat_limits.specs.declared.change_row.Cities.{Cities}
use Rattle.seat_limits.specs.declared.change_row.RowSetting.{RowSetting}
use Rattle.seat_limits.specs.declared.change_row.RowSetting.TheVariants.{SetLimit, SetSale}
use Rattle.seat_limits.specs.declared.limit_fault.LimitFault.{LimitFault}
use Rattle.seat_limits.specs.declared.limit_fault.LimitKind.{LimitKind}
use Rattle.seat_limits.specs.declared.limit_fault.LimitKind.TheVariants as limit_kinds
use Rattle.seat_journal.specs.declared.entry.Change.{Change}
use Rattle.seat_journal.specs.declared.entry.Control.{Control}
use Rattle.seat_journal.specs.declared.entry.Control.TheVariants.{ToLimit, ToSale}
use Rattle.seat_desk.specs.declared.fault.DeskFault.{DeskFault}
use Rattle.seat_desk.specs.declared.fault.DeskFault.TheVariants.{Change as BadChange, NoLeg, Memory}

-- 16 MiB
abbrev pub most_change_bytes : ℕ
most_change_bytes = 16_777_216

-- ---- what is asked

-- the flight and the day that a row names, and two cities
abbrev pub wanted_by : ChangeRow → Cities → Wanted
wanted_by r pair =
    record { airline = r.airline; number = r.number; suffix = r.suffix; day = r.day; board = pair.board; off = pair.off }

-- what a row sets, on a leg
abbrev pub on_leg : RowSetting → ℕ → ℕ → Control
on_leg (SetLimit class limit wait) flight leg =
    ToLimit (record { flight = flight; leg = leg; class = class; limit = limit; wait = wait })
on_leg (SetSale class closed) flight leg =
    ToSale (record { flight = flight; leg = leg; class = class; closed = closed })

-- the same where a place is there, and is of one leg
abbrev pub on_place : RowSetting → Option Place → Option (List Control)
on_place s None = None
on_place s (Some p) = (if p.from == p.to then Some (on_leg s p.flight p.from ∷ []) else None)

-- the flight has the name that the row has
abbrev pub is_named : ChangeRow → Flown → Bool
is_named r f = pointwise nat_eq f.airline r.airline && ((f.number == r.number) && option_eq nat_eq f.suffix r.suffix)

-- on each of a flight's legs that departs on the row's day, from this leg on
abbrev pub on_legs : ChangeRow → ℕ → ℕ → List DatedLeg → List Control
on_legs r flight leg [] = []
on_legs r flight leg (l ∷ legs) =
    (if l.day == r.day then on_leg r.setting flight leg ∷ [] else []) ++ on_legs r flight (leg + 1) legs

-- and on each such leg of the flights with its name, from flight n on
abbrev pub on_flights : ChangeRow → ℕ → List Flown → List Control
on_flights r n [] = []
on_flights r n (f ∷ flights) = (if is_named r f then on_legs r n 0 f.legs else []) ++ on_flights r (n + 1) flights

-- where there is one
abbrev pub some_of : List Control → Option (List Control)
some_of [] = None
some_of (c ∷ controls) = Some (c ∷ controls)

-- on the one leg that serves two cities; where none are named, on each leg of the flight that departs on the day
abbrev pub set_between : List Flown → ChangeRow → Option Cities → Option (List Control)
set_between flights r None = some_of (on_flights r 0 flights)
set_between flights r (Some pair) = on_place r.setting (place_wanted flights (wanted_by r pair))

-- what a row asks for, where there is such a leg
abbrev pub changes_of : List Flown → ChangeRow → Option (List Control)
changes_of flights r = set_between flights r r.cities

-- a leg of the flights
pub record IsLegOf (flights : List Flown) (flight leg : ℕ) : Type 0 where
  pub flown : Flown
  pub at : slice_get flights flight ≡ Some flown
  pub there : leg < length flown.legs

-- the change is of a leg of the flights, and its limit and wait are at most 999
pub record IsLimitOnLeg (flights : List Flown) (c : Change) : Type 0 where
  pub leg : IsLegOf flights c.flight c.leg
  pub limit_most : c.limit ≤ 999
  pub wait_most : c.wait ≤ 999

-- what is set is set on a leg of the flights
abbrev pub IsOnLeg : List Flown → Control → Type 0
IsOnLeg flights (ToLimit c) = IsLimitOnLeg flights c
IsOnLeg flights (ToSale c) = IsLegOf flights c.flight c.leg

abbrev pub and_those : Option (List Control) → Option (List Control) → Option (List Control)
and_those None behind = None
and_those (Some here) None = None
and_those (Some here) (Some behind) = Some (here ++ behind)

-- row by row
abbrev pub all_served : List Flown → List ChangeRow → Option (List Control)
all_served flights [] = Some []
all_served flights (r ∷ rows) = and_those (changes_of flights r) (all_served flights rows)

abbrev pub AreServed : List Flown → List ChangeRow → List Control → Type 0
AreServed flights rows changes = all_served flights rows ≡ Some changes

-- the bytes are the text of rows that ask for these changes, and not too many
pub record AreChanges (flights : List Flown) (changes : List Control) (bytes : List ℕ) : Type 0 where
  pub within : length bytes ≤ most_change_bytes
  pub rows : List ChangeRow
  pub are_rows : IsChangeText bytes rows
  pub are_served : AreServed flights rows changes

-- ---- refusals

-- the bytes are not too many, and the fault is the first of their rows
pub record AreNoChanges (fault : LimitFault) (bytes : List ℕ) : Type 0 where
  pub within : length bytes ≤ most_change_bytes
  pub first : changes_in 1 (lines bytes) ≡ Err fault

-- the bytes are right, but no leg or more than one serves a row: the first such row, which stands in this line
pub record IsUnserved (flights : List Flown) (line : ℕ) (bytes : List ℕ) : Type 0 where
  pub within : length bytes ≤ most_change_bytes
  pub before : List ChangeRow
  pub row : ChangeRow
  pub behind : List ChangeRow
  pub are_rows : IsChangeText bytes (before ++ row ∷ behind)
  pub changes : List Control
  pub are_served : AreServed flights before changes
  pub unserved : changes_of flights row ≡ None
  pub line_is : line ≡ row.line

-- the fault is that of the rows, or of the legs that serve them
abbrev pub IsUnchanged : List Flown → DeskFault → List ℕ → Type 0
IsUnchanged flights (BadChange fault) bytes = AreNoChanges fault bytes
IsUnchanged flights (NoLeg line) bytes = IsUnserved flights line bytes
IsUnchanged flights _ bytes = ⊥

-- what is wrong is the changes
abbrev pub IsOfChanges : DeskFault → Type 0
IsOfChanges (BadChange fault) = Unit {0}
IsOfChanges (NoLeg line) = Unit {0}
IsOfChanges _ = ⊥

-- the desk's fault for one of change rows
abbrev pub change_refusal_of : LimitKind → LimitFault → DeskFault
change_refusal_of limit_kinds.Memory fault = Memory
change_refusal_of _ fault = BadChange fault

abbrev pub change_refusal : LimitFault → DeskFault
change_refusal fault = change_refusal_of fault.kind fault
