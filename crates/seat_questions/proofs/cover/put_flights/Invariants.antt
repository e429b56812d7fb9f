-- The flights so far are written and counted.
use Rattle.std.proofs.Common.{◌≡◌, ◌≤◌, ◌*◌, take}
use Rattle.std.specs.List.{sum_by}
use Rattle.seat_desk.specs.FlightsDesk.{IsPut}
use Rattle.seat_questions.specs.Cover.{IsFlightPartBy, covered_by}
use Rattle.seat_questions.specs.Coverage.{finds_row}
use Rattle.seat_questions.proofs.cover.put_flights.Given as goal

abbrev pub invariant-loop-i : goal.invariant-loop-i
invariant-loop-i l = record {
  put : IsPut (IsFlightPartBy (finds_row l.coverage)) 0 (take l.i l.flights) l.initial.text.items l.text.items;
  total : l.count ≡ sum_by (covered_by (finds_row l.coverage)) (take l.i l.flights);
  bound : l.count ≤ l.i * 8;
}
