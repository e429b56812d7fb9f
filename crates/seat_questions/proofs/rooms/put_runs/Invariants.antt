-- The last legs so far are written.
use Rattle.std.proofs.Common.{take}
use Rattle.seat_rules.specs.Inventory.{state_now}
use Rattle.seat_desk.specs.FlightsDesk.{IsPut}
use Rattle.seat_questions.specs.Rooms.{IsLastPart}
use Rattle.seat_questions.proofs.rooms.put_runs.Given as goal

abbrev pub invariant-loop-k : goal.invariant-loop-k
invariant-loop-k l = IsPut (IsLastPart l.served l.asked (state_now l.core) l.start.flight l.flight l.start.from l.first) l.start.from (take l.k l.rest) l.initial.text.items l.text.items
