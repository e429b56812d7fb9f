-- The lines of the legs so far are written.
use Rattle.std.proofs.Common.{take}
use Rattle.seat_rules.specs.Inventory.{state_now}
use Rattle.seat_desk.specs.FlightsDesk.{IsPut}
use Rattle.seat_loads.specs.Loads.{IsLegPart}
use Rattle.seat_loads.proofs.loads.put_flight.Given as goal

abbrev pub invariant-loop-j : goal.invariant-loop-j
invariant-loop-j l = IsPut (IsLegPart l.asked (state_now l.core) l.index l.flight) 0 (take l.j l.legs) l.initial.text.items l.text.items
