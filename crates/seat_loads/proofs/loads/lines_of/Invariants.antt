-- The flights so far are written.
use Rattle.std.proofs.Common.{[], take}
use Rattle.seat_rules.specs.Inventory.{state_now}
use Rattle.seat_desk.specs.FlightsDesk.{IsPut}
use Rattle.seat_loads.specs.Loads.{IsFlightPart}
use Rattle.seat_loads.proofs.loads.lines_of.Given as goal

abbrev pub invariant-loop-index : goal.invariant-loop-index
invariant-loop-index l = IsPut (IsFlightPart l.asked (state_now l.core)) 0 (take l.index l.flights) [] l.text.items
