-- The table of `cover`: a row for each limit row that gives no leg its ladder, and for each leg that no limit row is for.
use Rattle.std.specs.Prelude.{ℕ, Bool, true, false, List, [], ◌∷◌, ◌++◌, codes}
use Rattle.ssim_flights.specs.declared.flight.DatedLeg.{DatedLeg}
use Rattle.ssim_flights.specs.declared.flight.Flight.{Flight as Flown}
use Rattle.seat_limits.specs.declared.limit_row.LimitRow.{LimitRow}
use Rattle.seat_questions.specs.Cover.{effect_among, has_row, legs_for}
use Rattle.seat_tables.specs.Rows.{rows_from}
use Rattle.seat_tables.specs.declared.cell.Cell.{Cell}
use Rattle.seat_tables.specs.declared.cell.Cell.TheVariants.{Number, Date, Stop, Flight, Nothing}

abbrev pub cover_names : List (List ℕ)
cover_names =
    codes "row" ∷ codes "legs" ∷ codes "flight" ∷ codes "designator" ∷ codes "leg" ∷ codes "day" ∷ codes "board" ∷ codes "off" ∷ []

-- a row where something is lacking, and none where it is there
abbrev pub row_without : Bool → List Cell → List (List Cell)
row_without true row = []
row_without false row = row ∷ []

-- a limit row, and how many legs it is for: none, or such as have the ladders of rows behind it
abbrev pub idle_row : ℕ → ℕ → List Cell
idle_row n legs =
    Number n ∷ Number legs ∷ Nothing ∷ Nothing ∷ Nothing ∷ Nothing ∷ Nothing ∷ Nothing ∷ []

-- limit row n, counted from 1, where it gives no leg its ladder
abbrev pub rows_of_row : List LimitRow → List Flown → ℕ → LimitRow → List (List Cell)
rows_of_row rows flights n row = row_without (effect_among rows flights n row) (idle_row n (legs_for flights row))

-- a leg, counted from 0: its flight, the local day on which it departs, and its stations
abbrev pub bare_row : ℕ → Flown → ℕ → DatedLeg → List Cell
bare_row i flight j leg =
    Nothing ∷ Nothing ∷ Number i ∷ Flight flight.airline flight.number flight.suffix ∷ Number j ∷ Date leg.day ∷ Stop leg.board
    ∷ Stop leg.off ∷ []

-- where no limit row is for it
abbrev pub rows_of_leg : List LimitRow → ℕ → Flown → ℕ → DatedLeg → List (List Cell)
rows_of_leg rows i flight j leg = row_without (has_row rows flight leg) (bare_row i flight j leg)

abbrev pub rows_of_flight : List LimitRow → ℕ → Flown → List (List Cell)
rows_of_flight rows i flight = rows_from (rows_of_leg rows i flight) 0 flight.legs

-- the limit rows in their order, and then the legs by flight
abbrev pub cover_rows : List LimitRow → List Flown → List (List Cell)
cover_rows rows flights = rows_from (rows_of_row rows flights) 1 rows ++ rows_from (rows_of_flight rows) 0 flights
