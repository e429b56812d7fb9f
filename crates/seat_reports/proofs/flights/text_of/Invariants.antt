-- The flights so far are written.
use Rattle.std.proofs.Common.{[], take}
use Rattle.seat_desk.specs.FlightsDesk.{IsPut}
use Rattle.seat_reports.specs.FlightLines.{IsFlightLine}
use Rattle.seat_reports.proofs.flights.text_of.Given as goal

abbrev pub invariant-loop-index : goal.invariant-loop-index
invariant-loop-index l = IsPut IsFlightLine 0 (take l.index l.flights) [] l.text.items
