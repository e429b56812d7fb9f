-- The flights so far are listed.
use Rattle.std.proofs.Common.{take}
use Rattle.flight_days.specs.Leaving.{AreDaysOf}
use Rattle.flight_days.proofs.day_flights.DayFlights.new.Given as goal

abbrev pub invariant-loop-index : goal.invariant-loop-index
invariant-loop-index l = AreDaysOf l.days (take l.index l.flights)
