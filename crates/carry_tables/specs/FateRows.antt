-- The table of a report: a row for each live booking, and no sums.
use Rattle.std.specs.Prelude.{◌≡◌, ℕ, List, [], ◌∷◌, codes, drop, map, Option, Some, None}
use Rattle.ssim_flights.specs.declared.flight.Flight.{Flight as Flown}
use Rattle.seat_lists.specs.Named.{status_code}
use Rattle.seat_moving.specs.Moving.{name_of}
use Rattle.seat_rules.specs.declared.booking.Booking.{Booking}
use Rattle.seat_tables.specs.Rows.{IsTable, rows_from}
use Rattle.seat_tables.specs.declared.cell.Cell.{Cell}
use Rattle.seat_tables.specs.declared.cell.Cell.TheVariants.{Name, Number, Word, Nothing}
use Rattle.seat_tables.specs.declared.sheet.Form.{Form}
use Rattle.carry_reports.specs.Codes.{code_of}
use Rattle.carry_reports.specs.Numbers.{journal_of, number_in}
use Rattle.carry_reports.specs.Reports.{IsReport}
use Rattle.carry_reports.specs.declared.fating.Fate.{Fate}
use Rattle.carry_reports.specs.declared.fating.Fate.TheVariants.{Departed, Unserved, Unsold, Asked}
use Rattle.carry_reports.specs.declared.fating.Fated.{Fated}
use Rattle.carry_reports.specs.declared.fating.Outcome.{Outcome}
use Rattle.carry_reports.specs.declared.fating.Outcome.TheVariants as outcomes
use Rattle.carry_tables.specs.Sides.{no_side, side_of}
use Rattle.carry_tables.specs.declared.sides.Side.{Side}

-- the first column, which says of which journal a booking is, stands only where there are several
abbrev pub shown : {X : Type 0} → List ℕ → List X → List X
shown [] all = drop 1 all
shown (count ∷ counts) all = all

abbrev pub all_names : List (List ℕ)
all_names =
    codes "journal" ∷ codes "number" ∷ codes "locator" ∷ codes "designator" ∷ codes "class" ∷ codes "day" ∷ codes "board" ∷ codes "off" ∷ codes "status"
    ∷ codes "seats" ∷ codes "new_number" ∷ codes "new_designator" ∷ codes "new_class" ∷ codes "new_day" ∷ codes "new_board" ∷ codes "new_off"
    ∷ codes "new_status" ∷ codes "new_seats" ∷ codes "code" ∷ []

-- the columns of a report on bookings of journals that have so many lines
abbrev pub carry_names : List ℕ → List (List ℕ)
carry_names counts = shown counts all_names

-- ---- a row

-- HK where it holds now, HL where it waits, and nothing where it does neither
abbrev pub outcome_cell : Outcome → Cell
outcome_cell outcomes.Held = Word (codes "HK")
outcome_cell outcomes.Waiting = Word (codes "HL")
outcome_cell outcomes.Refused = Nothing

-- who departed before today has no code
abbrev pub code_cell : Option (List ℕ) → Cell
code_cell None = Nothing
code_cell (Some code) = Word code

-- what it was, under its number in its own journal
abbrev pub old_side : List ℕ → List Flown → Booking → Side
old_side counts olds b = side_of (number_in counts b.number) (name_of olds b.place) b.class (Word (status_code b.status)) b.seats

-- what it is, in its class there, under the number of the line that asked for it; nothing where none did
abbrev pub new_side : List Flown → Booking → Fate → Side
new_side news b Departed = no_side
new_side news b Unserved = no_side
new_side news b Unsold = no_side
new_side news b (Asked a) = side_of a.line (name_of news a.place) a.class (outcome_cell a.outcome) b.seats

abbrev pub row_of : Cell → List ℕ → Side → Side → Cell → List Cell
row_of journal locator old new code =
    journal ∷ old.number ∷ Name locator ∷ old.designator ∷ old.class ∷ old.day ∷ old.board ∷ old.off ∷ old.status ∷ old.seats
    ∷ new.number ∷ new.designator ∷ new.class ∷ new.day ∷ new.board ∷ new.off ∷ new.status ∷ new.seats ∷ code ∷ []

-- what it was, what it is, and the code for what became of it
abbrev pub whole_row : List ℕ → List Flown → List Flown → Fated → List Cell
whole_row counts olds news f =
    row_of (Number (journal_of counts f.booking.number)) f.booking.locator (old_side counts olds f.booking) (new_side news f.booking f.fate)
    (code_cell (code_of f))

abbrev pub fate_row : List ℕ → List Flown → List Flown → Fated → List Cell
fate_row counts olds news f = shown counts (whole_row counts olds news f)

abbrev pub fate_rows : List ℕ → List Flown → List Flown → ℕ → Fated → List (List Cell)
fate_rows counts olds news k f = fate_row counts olds news f ∷ []

-- ---- the report

-- the lines and their sums, or the table
abbrev pub IsReportAs : Option Form → List ℕ → List Flown → List Flown → List Fated → List ℕ → Type 0
IsReportAs None counts olds news all text = IsReport counts olds news all text
IsReportAs (Some form) counts olds news all text = IsTable form (carry_names counts) (rows_from (fate_rows counts olds news) 0 all) text

-- ---- the law

-- each live booking has its row, in order, and there is no other
abbrev pub EachHasARow : Type 0
EachHasARow = (counts : List ℕ) (olds news : List Flown) (k : ℕ) (all : List Fated)
    → rows_from (fate_rows counts olds news) k all ≡ map (fate_row counts olds news) all
