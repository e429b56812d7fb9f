-- The first legs so far are written.
use Rattle.std.proofs.Common.{take}
use Rattle.seat_rules.specs.Inventory.{state_now}
use Rattle.seat_desk.specs.FlightsDesk.{IsPut}
use Rattle.seat_questions.specs.Rooms.{IsFirstPart}
use Rattle.seat_questions.proofs.rooms.put_flight.Given as goal

abbrev pub invariant-loop-from : goal.invariant-loop-from
invariant-loop-from l = IsPut (IsFirstPart l.served l.asked (state_now l.core) l.index l.flight) 0 (take l.from l.legs) l.initial.text.items l.text.items
