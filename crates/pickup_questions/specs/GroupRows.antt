-- The tables of sums of pickup: a row for each flight, for each class or for each day, in which seats were held or came.
use Rattle.std.specs.Prelude.{ℕ, ◌+◌, ◌-◌, List, [], ◌∷◌, codes}
use Rattle.ssim_flights.specs.declared.flight.DatedLeg.{DatedLeg}
use Rattle.ssim_flights.specs.declared.flight.Flight.{Flight as Flown}
use Rattle.seat_pickup.specs.Pickups.{has_any}
use Rattle.seat_pickup.specs.declared.classes.Pickup.{Pickup}
use Rattle.seat_tables.specs.Rows.{rows_from}
use Rattle.seat_tables.specs.declared.cell.Cell.{Cell}
use Rattle.seat_tables.specs.declared.cell.Cell.TheVariants.{Number, Date, Letter, Flight, Nothing}
use Rattle.table_questions.specs.Tables.{kept_rows}
use Rattle.table_questions.specs.SumRows.{day_count, days_from, rows_of_each}
use Rattle.pickup_questions.specs.Groups.{by_class, by_flight, by_given, start_groups, sums_in}
use Rattle.seat_pickup.specs.declared.moved.MoveSums.{MoveSums}

-- the names of the sums, and the sums
abbrev pub sums_names : List (List ℕ)
sums_names = codes "before" ∷ codes "sold" ∷ codes "cancelled" ∷ codes "confirmed" ∷ codes "held" ∷ []

-- ---- flight by flight

abbrev pub flight_names : List (List ℕ)
flight_names = codes "flight" ∷ codes "designator" ∷ codes "day" ∷ sums_names

-- the day on which the first leg departs
abbrev pub start_cell : List DatedLeg → Cell
start_cell [] = Nothing
start_cell (leg ∷ legs) = Date leg.day

abbrev pub flight_cells : ℕ → Flown → MoveSums → List Cell
flight_cells i flight sums =
    Number i ∷ Flight flight.airline flight.number flight.suffix ∷ start_cell flight.legs ∷ Number sums.before ∷ Number sums.sold
    ∷ Number sums.cancelled ∷ Number sums.confirmed ∷ Number sums.held ∷ []

abbrev pub rows_of_flight : List Pickup → ℕ → Flown → List (List Cell)
rows_of_flight all i flight =
    kept_rows (has_any (sums_in by_flight i all)) (flight_cells i flight (sums_in by_flight i all) ∷ [])

abbrev pub flight_rows : List Flown → List Pickup → List (List Cell)
flight_rows flights all = rows_from (rows_of_flight all) 0 flights

-- ---- class by class

abbrev pub class_names : List (List ℕ)
class_names = codes "class" ∷ sums_names

abbrev pub class_cells : ℕ → MoveSums → List Cell
class_cells class sums =
    Letter class ∷ Number sums.before ∷ Number sums.sold ∷ Number sums.cancelled ∷ Number sums.confirmed ∷ Number sums.held ∷ []

abbrev pub rows_of_class : List Pickup → ℕ → List (List Cell)
rows_of_class all class =
    kept_rows (has_any (sums_in by_class (class - 65) all)) (class_cells class (sums_in by_class (class - 65) all) ∷ [])

-- from A to Z
unfoldable pub class_rows : List Pickup → List (List Cell)
class_rows all = rows_of_each (rows_of_class all) 26 65

-- ---- day by day

abbrev pub day_names : List (List ℕ)
day_names = codes "day" ∷ sums_names

abbrev pub day_cells : ℕ → MoveSums → List Cell
day_cells day sums =
    Date day ∷ Number sums.before ∷ Number sums.sold ∷ Number sums.cancelled ∷ Number sums.confirmed ∷ Number sums.held ∷ []

-- a day of so many groups from the first on
abbrev pub rows_on_day : (Pickup → ℕ) → List Pickup → ℕ → ℕ → List (List Cell)
rows_on_day group all k day = kept_rows (has_any (sums_in group k all)) (day_cells day (sums_in group k all) ∷ [])

abbrev pub rows_of_day : (Pickup → ℕ) → ℕ → List Pickup → ℕ → List (List Cell)
rows_of_day group first all k = rows_on_day group all k (first + k)

-- the day of a flight is that on which its first leg departs: from the earliest day on which any leg does to the latest
abbrev pub day_rows : List Flown → List Pickup → List (List Cell)
day_rows flights all =
    rows_of_each (rows_of_day (by_given (start_groups (days_from flights) flights)) (days_from flights) all) (day_count flights) 0
