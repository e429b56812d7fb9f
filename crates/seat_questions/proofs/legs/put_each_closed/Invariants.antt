-- The closed classes so far are written.
use Rattle.std.proofs.Common.{◌≡◌, ◌++◌, take}
use Rattle.std.specs.List.{flat_map}
use Rattle.seat_questions.specs.Why.{closed_text}
use Rattle.seat_questions.proofs.legs.put_each_closed.Given as goal

abbrev pub invariant-loop-step : goal.invariant-loop-step
invariant-loop-step l = l.text.items ≡ l.initial.text.items ++ flat_map closed_text (take l.step-index l.steps)
