use Rattle.std.proofs.Common.{◌≡◌, ◌++◌, take, map}
use Rattle.ssim_flights.specs.Timetables.{at_row}
use Rattle.ssim_flights.proofs.timetable.add_rows.Given as goal

abbrev pub invariant-loop-k : goal.invariant-loop-k
invariant-loop-k l =
    l.flight_rows.items ≡ l.initial.flight_rows.items ++ map (at_row l.first_row) (take l.k l.rows)
