-- The table of pickup by pair: a row for each two stations between which seats were held or came. A booking counts once, from the board point of the
-- first leg of its place to the off point of the last, whatever the flight.
use Rattle.std.specs.Prelude.{ℕ, List, [], ◌∷◌, codes, Option}
use Rattle.ssim_flights.specs.declared.flight.DatedLeg.{DatedLeg}
use Rattle.ssim_flights.specs.declared.flight.Flight.{Flight as Flown}
use Rattle.seat_lists.specs.declared.picking.Designator.{Designator}
use Rattle.seat_questions.specs.Rooms.{run_of}
use Rattle.seat_questions.specs.declared.rooms.CityPair.{CityPair}
use Rattle.seat_pickup.specs.Moves.{Where}
use Rattle.seat_pickup.specs.Pairs.{between}
use Rattle.seat_pickup.specs.Pickups.{has_any}
use Rattle.seat_pickup.specs.declared.moved.MoveSums.{MoveSums}
use Rattle.seat_tables.specs.Rows.{rows_from}
use Rattle.seat_tables.specs.declared.cell.Cell.{Cell}
use Rattle.seat_tables.specs.declared.cell.Cell.TheVariants.{Number, Stop}
use Rattle.table_questions.specs.SumRows.{with_pair}
use Rattle.table_questions.specs.Tables.{kept_rows}
use Rattle.pickup_questions.specs.GroupRows.{sums_names}

abbrev pub pair_names : List (List ℕ)
pair_names = codes "board" ∷ codes "off" ∷ sums_names

abbrev pub pair_cells : CityPair → MoveSums → List Cell
pair_cells pair sums =
    Stop pair.board ∷ Stop pair.off ∷ Number sums.before ∷ Number sums.sold ∷ Number sums.cancelled ∷ Number sums.confirmed ∷ Number sums.held ∷ []

-- of what moved between the pair of each number
abbrev pub rows_of_pair : (ℕ → ℕ → MoveSums) → ℕ → CityPair → List (List Cell)
rows_of_pair moved n pair = kept_rows (has_any (moved n 65)) (pair_cells pair (moved n 65) ∷ [])

-- ---- the pairs of flights, each once

-- those of the places that begin with a leg and end with each of these
abbrev pub with_lasts : List CityPair → DatedLeg → List DatedLeg → List CityPair
with_lasts pairs first [] = pairs
with_lasts pairs first (last ∷ legs) = with_lasts (with_pair pairs (run_of first last)) first legs

-- those of the places of a flight, by first leg and then by last leg
abbrev pub with_places : List CityPair → List DatedLeg → List CityPair
with_places pairs [] = pairs
with_places pairs (leg ∷ legs) = with_places (with_lasts pairs leg (leg ∷ legs)) legs

abbrev pub with_flights : List CityPair → List Flown → List CityPair
with_flights pairs [] = pairs
with_flights pairs (flight ∷ flights) = with_flights (with_places pairs flight.legs) flights

-- in the order of the schedule's first place between them, kept or not
abbrev pub pairs_of : List Flown → List CityPair
pairs_of flights = with_flights [] flights

abbrev pub pair_rows : Option Designator → List Flown → (Where → ℕ → ℕ → MoveSums) → List (List Cell)
pair_rows asked flights moved = rows_from (rows_of_pair (moved (between asked flights (pairs_of flights)))) 0 (pairs_of flights)
