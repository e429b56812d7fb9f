-- The table of pickup: a row for each class of each flight that is kept, and as text a line of sums.
use Rattle.std.specs.Prelude.{◌≡◌, ◌⊎◌, ◌≤◌, ℕ, List, [], ◌∷◌, ◌++◌, codes, decimal, length, Option}
use Rattle.std.specs.List.{sum_by}
use Rattle.ssim_flights.specs.declared.flight.Flight.{Flight as Flown}
use Rattle.seat_journal.specs.Text.{IsJournalText}
use Rattle.seat_journal.specs.declared.entry.Entry.{Entry}
use Rattle.seat_nesting.specs.Nesting.{Ladders}
use Rattle.seat_rules.specs.Journal.{IsLegal}
use Rattle.seat_desk.specs.AuditDesk.{IsUnlawful, most_lines}
use Rattle.seat_desk.specs.declared.fault.DeskFault.{DeskFault}
use Rattle.seat_lists.specs.declared.picking.Designator.{Designator}
use Rattle.seat_pickup.specs.Moves.{Where, is_at}
use Rattle.seat_pickup.specs.Older.{IsNoPast, IsPast, past_lines}
use Rattle.seat_pickup.specs.Pickups.{moved_behind, pickups_of}
use Rattle.seat_pickup.specs.declared.classes.Pickup.{Pickup}
use Rattle.seat_pickup.specs.declared.moved.MoveSums.{MoveSums}
use Rattle.seat_pickup.specs.declared.past.Past.{Past}
use Rattle.seat_pickup.specs.declared.split.Split.TheVariants.{Legs}
use Rattle.seat_tables.specs.Rows.{IsTable, rows_from}
use Rattle.seat_tables.specs.declared.cell.Cell.{Cell}
use Rattle.seat_tables.specs.declared.cell.Cell.TheVariants.{Number, Letter, Flight}
use Rattle.seat_tables.specs.declared.sheet.Form.{Form}
use Rattle.seat_tables.specs.declared.sheet.Form.TheVariants.{Text, Csv, Json}
use Rattle.pickup_questions.specs.Groups.{move_of}
use Rattle.pickup_questions.specs.GroupRows.{class_names, class_rows, day_names, day_rows, flight_names, flight_rows}
use Rattle.pickup_questions.specs.LegRows.{leg_names, leg_rows}
use Rattle.pickup_questions.specs.PairRows.{pair_names, pair_rows}
use Rattle.pickup_questions.specs.declared.groups.Move.{Move}
use Rattle.pickup_questions.specs.declared.groups.Move.TheVariants.{Before, Sold, Cancelled, Confirmed, Held}
use Rattle.pickup_questions.specs.declared.pickup.By.{By}
use Rattle.pickup_questions.specs.declared.pickup.By.TheVariants.{EachRow, EachFlight, EachLeg, EachClass, EachDay, EachPair}
use Rattle.pickup_questions.specs.declared.pickup.PickupOf.{PickupOf}

abbrev pub pickup_names : List (List ℕ)
pickup_names =
    codes "flight" ∷ codes "designator" ∷ codes "class" ∷ codes "before" ∷ codes "sold" ∷ codes "cancelled" ∷ codes "confirmed"
    ∷ codes "held" ∷ []

abbrev pub pickup_row : Pickup → List Cell
pickup_row p =
    Number p.flight ∷ Flight p.name.airline p.name.number p.name.suffix ∷ Letter p.class ∷ Number p.before ∷ Number p.sold
    ∷ Number p.cancelled ∷ Number p.confirmed ∷ Number p.held ∷ []

abbrev pub rows_of_pickup : ℕ → Pickup → List (List Cell)
rows_of_pickup k p = pickup_row p ∷ []

-- what a row is of
abbrev pub names_by : By → List (List ℕ)
names_by EachRow = pickup_names
names_by EachFlight = flight_names
names_by EachLeg = leg_names
names_by EachClass = class_names
names_by EachDay = day_names
names_by EachPair = pair_names

-- the rows of classes, or their sums; or those of legs of flights that are kept, or of pairs on them, of what moved there
abbrev pub rows_by : By → Option Designator → List Flown → List Pickup → (Where → ℕ → ℕ → MoveSums) → List (List Cell)
rows_by EachRow asked flights all moved = rows_from rows_of_pickup 0 all
rows_by EachFlight asked flights all moved = flight_rows flights all
rows_by EachLeg asked flights all moved = leg_rows asked (moved (is_at Legs)) flights
rows_by EachClass asked flights all moved = class_rows all
rows_by EachDay asked flights all moved = day_rows flights all
rows_by EachPair asked flights all moved = pair_rows asked flights moved

-- words, and a sum
abbrev pub sum_text : List ℕ → Move → List Pickup → List ℕ
sum_text words of all = words ++ decimal (sum_by (move_of of) all)

-- SUMS before N sold N cancelled N confirmed N held N
abbrev pub sums_text : List Pickup → List ℕ
sums_text all =
    sum_text (codes "SUMS before ") Before all ++ sum_text (codes " sold ") Sold all ++ sum_text (codes " cancelled ") Cancelled all
    ++ sum_text (codes " confirmed ") Confirmed all ++ sum_text (codes " held ") Held all ++ 10 ∷ []

-- the text alone has it
abbrev pub sums_part : Form → List Pickup → List ℕ
sums_part Text all = sums_text all
sums_part Csv all = []
sums_part Json all = []

pub record IsPickupText (by : By) (form : Form) (asked : Option Designator) (flights : List Flown) (all : List Pickup)
    (moved : Where → ℕ → ℕ → MoveSums) (text : List ℕ) : Type 0 where
  pub table : List ℕ
  pub is_table : IsTable form (names_by by) (rows_by by asked flights all moved) table
  pub written : text ≡ table ++ sums_part form all

-- the bytes are the text of a legal history over these limits that begins with what stands ahead, and the text has what the lines behind that made
pub record IsPickupOver (asked : PickupOf) (flights : List Flown) (grid : Ladders) (journal text : List ℕ) : Type 0 where
  pub entries : List Entry
  pub is_text : IsJournalText journal entries
  pub legal : IsLegal grid entries
  pub few : length entries ≤ most_lines
  pub past : IsPast asked.past entries
  pub picked_up : IsPickupText asked.by asked.form asked.flight flights (pickups_of asked.flight flights grid entries (past_lines asked.past))
      (moved_behind grid entries (past_lines asked.past)) text

-- the bytes are the text of a legal history over these limits that does not begin with what stands ahead, and the fault says why
pub record IsParted (past : Past) (grid : Ladders) (fault : DeskFault) (journal : List ℕ) : Type 0 where
  pub entries : List Entry
  pub is_text : IsJournalText journal entries
  pub legal : IsLegal grid entries
  pub parted : IsNoPast past entries fault

-- they are no such text, or such a one
pub record IsPickupRefused (past : Past) (grid : Ladders) (fault : DeskFault) (journal : List ℕ) : Type 0 where
  pub refused : IsUnlawful grid fault journal ⊎ IsParted past grid fault journal
