-- The row of a flight's sums.
use Rattle.std.proofs.Common.{Bool, true, false, ◌≡◌, ℕ, List, [], ◌∷◌, refl, sym, ap, subst, ◌∙◌}
use Rattle.ssim_flights.specs.declared.flight.Flight.{Flight as Flown}
use Rattle.seat_rules.specs.Sequential.{State}
use Rattle.seat_loads.specs.Sums.{AreRidersOn, IsLegSumOfFlight}
use Rattle.seat_loads.specs.declared.loads.LoadsOf.{LoadsOf}
use Rattle.seat_loads.specs.declared.passengers.Riders.{Riders}
use Rattle.seat_loads.specs.declared.sums.LegSums.{LegSums}
use Rattle.seat_tables.specs.Sheets.{ArePut}
use Rattle.seat_tables.specs.declared.cell.Cell.{Cell}
use Rattle.seat_tables.specs.declared.sheet.Sheet.{Sheet}
use Rattle.table_questions.specs.SumRows.{cells_of, flight_names, sums_row}

same_cells : (asked : LoadsOf) (s : State) (i : ℕ) (flight : Flown) (legs : LegSums) (riders : Riders)
    → IsLegSumOfFlight asked s i flight legs → AreRidersOn asked s i flight riders
    → cells_of i flight legs riders ≡ sums_row asked s i flight
same_cells asked s i flight legs riders l r = rw (l.legs, l.seats, l.limits, r.held, r.waiting) refl

pub sums_kept : (asked : LoadsOf) (s : State) (i : ℕ) (flight : Flown) (legs : LegSums) (riders : Riders) (row : List Cell) (old new : Sheet)
    → IsLegSumOfFlight asked s i flight legs → AreRidersOn asked s i flight riders → row ≡ cells_of i flight legs riders
    → ArePut flight_names (row ∷ []) old new → ArePut flight_names (sums_row asked s i flight ∷ []) old new
sums_kept asked s i flight legs riders row old new l r is put =
    subst (λ (cells : List Cell). ArePut flight_names (cells ∷ []) old new) (is ∙ same_cells asked s i flight legs riders l r) put
