-- The classes so far are written.
use Rattle.std.proofs.Common.{◌≡◌, ◌++◌, take}
use Rattle.std.specs.List.{flat_map}
use Rattle.seat_rules.specs.Bookings.{waiting}
use Rattle.seat_rules.specs.Inventory.{state_now}
use Rattle.seat_questions.specs.Why.{wait_text}
use Rattle.seat_questions.proofs.legs.put_each_wait.Given as goal

abbrev pub invariant-loop-step : goal.invariant-loop-step
invariant-loop-step l = l.text.items ≡ l.initial.text.items ++ flat_map (wait_text (waiting (state_now l.core).bookings l.flight l.leg)) (take l.step-index l.steps)
