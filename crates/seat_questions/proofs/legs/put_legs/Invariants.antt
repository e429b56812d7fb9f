-- The legs so far are written.
use Rattle.std.proofs.Common.{take}
use Rattle.seat_rules.specs.Inventory.{state_now}
use Rattle.seat_desk.specs.FlightsDesk.{IsPut}
use Rattle.seat_questions.specs.Why.{IsLegPart}
use Rattle.seat_questions.proofs.legs.put_legs.Given as goal

abbrev pub invariant-loop-j : goal.invariant-loop-j
invariant-loop-j l = IsPut (IsLegPart (state_now l.core) l.place) 0 (take l.j l.legs) l.initial.text.items l.text.items
