-- The limits so far are written.
use Rattle.std.proofs.Common.{◌≡◌, ◌++◌, take}
use Rattle.std.specs.List.{flat_map}
use Rattle.seat_questions.specs.Why.{limit_text}
use Rattle.seat_questions.proofs.legs.put_each_limit.Given as goal

abbrev pub invariant-loop-step : goal.invariant-loop-step
invariant-loop-step l = l.text.items ≡ l.initial.text.items ++ flat_map limit_text (take l.step-index l.steps)
