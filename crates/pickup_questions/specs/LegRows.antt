-- The table of pickup by leg: a row for each leg of a flight that is kept, on which seats were held or came. A booking counts on each leg of its place.
use Rattle.std.specs.Prelude.{ℕ, ◌+◌, List, [], ◌∷◌, codes, Option}
use Rattle.ssim_flights.specs.declared.flight.DatedLeg.{DatedLeg}
use Rattle.ssim_flights.specs.declared.flight.Flight.{Flight as Flown}
use Rattle.seat_lists.specs.Picking.{keeps_flight}
use Rattle.seat_lists.specs.declared.picking.Designator.{Designator}
use Rattle.seat_pickup.specs.Pickups.{has_any}
use Rattle.seat_pickup.specs.declared.moved.MoveSums.{MoveSums}
use Rattle.seat_tables.specs.Rows.{rows_from}
use Rattle.seat_tables.specs.declared.cell.Cell.{Cell}
use Rattle.seat_tables.specs.declared.cell.Cell.TheVariants.{Number, Date, Stop, Flight}
use Rattle.table_questions.specs.Tables.{kept_rows}
use Rattle.pickup_questions.specs.GroupRows.{sums_names}

abbrev pub leg_names : List (List ℕ)
leg_names = codes "flight" ∷ codes "designator" ∷ codes "day" ∷ codes "board" ∷ codes "off" ∷ sums_names

-- the day is the local one on which the leg departs
abbrev pub leg_cells : ℕ → Flown → DatedLeg → MoveSums → List Cell
leg_cells i flight leg sums =
    Number i ∷ Flight flight.airline flight.number flight.suffix ∷ Date leg.day ∷ Stop leg.board ∷ Stop leg.off ∷ Number sums.before
    ∷ Number sums.sold ∷ Number sums.cancelled ∷ Number sums.confirmed ∷ Number sums.held ∷ []

-- of what moved on each flight and leg, where the first leg stands at 65
abbrev pub rows_of_leg : (ℕ → ℕ → MoveSums) → ℕ → Flown → ℕ → DatedLeg → List (List Cell)
rows_of_leg moved i flight j leg = kept_rows (has_any (moved i (65 + j))) (leg_cells i flight leg (moved i (65 + j)) ∷ [])

abbrev pub rows_of_legs : Option Designator → (ℕ → ℕ → MoveSums) → ℕ → Flown → List (List Cell)
rows_of_legs asked moved i flight = kept_rows (keeps_flight asked flight) (rows_from (rows_of_leg moved i flight) 0 flight.legs)

abbrev pub leg_rows : Option Designator → (ℕ → ℕ → MoveSums) → List Flown → List (List Cell)
leg_rows asked moved flights = rows_from (rows_of_legs asked moved) 0 flights
