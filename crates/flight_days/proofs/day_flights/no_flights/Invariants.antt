-- So many lists without a flight.
use Rattle.std.proofs.Common.{◌≡◌, [], replicate}
use Rattle.flight_days.proofs.day_flights.no_flights.Given as goal

abbrev pub invariant-loop : goal.invariant-loop
invariant-loop l = l.lists.items ≡ replicate l.counter []
