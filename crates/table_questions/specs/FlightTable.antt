-- The table of the dated flights of a data set: a row for each leg.
use Rattle.std.specs.Prelude.{◌≤◌, ℕ, List, [], ◌∷◌, codes, length}
use Rattle.ssim_flights.specs.declared.flight.DatedLeg.{DatedLeg}
use Rattle.ssim_flights.specs.declared.flight.Flight.{Flight as Flown}
use Rattle.seat_desk.specs.CheckDesk.{most_set_bytes}
use Rattle.seat_desk.specs.FlightsDesk.{IsSchedule}
use Rattle.seat_tables.specs.Rows.{IsTable, rows_from}
use Rattle.seat_tables.specs.declared.cell.Cell.{Cell}
use Rattle.seat_tables.specs.declared.cell.Cell.TheVariants.{Number, Date, Stop, Flight}
use Rattle.seat_tables.specs.declared.sheet.Form.{Form}

abbrev pub flight_names : List (List ℕ)
flight_names = codes "flight" ∷ codes "designator" ∷ codes "leg" ∷ codes "day" ∷ codes "board" ∷ codes "off" ∷ []

-- the flight and its name, the leg, counted from 0, the local day on which it departs, and its stations
abbrev pub leg_row : ℕ → Flown → ℕ → DatedLeg → List Cell
leg_row i flight j leg =
    Number i ∷ Flight flight.airline flight.number flight.suffix ∷ Number j ∷ Date leg.day ∷ Stop leg.board ∷ Stop leg.off ∷ []

abbrev pub rows_of_leg : ℕ → Flown → ℕ → DatedLeg → List (List Cell)
rows_of_leg i flight j leg = leg_row i flight j leg ∷ []

abbrev pub rows_of_flight : ℕ → Flown → List (List Cell)
rows_of_flight i flight = rows_from (rows_of_leg i flight) 0 flight.legs

-- the bytes are not too large, and the text is the table of their flights
pub record IsFlightTable (form : Form) (first days : ℕ) (bytes text : List ℕ) : Type 0 where
  pub within : length bytes ≤ most_set_bytes
  pub flights : List Flown
  pub is_schedule : IsSchedule bytes first days flights
  pub is_table : IsTable form flight_names (rows_from rows_of_flight 0 flights) text
