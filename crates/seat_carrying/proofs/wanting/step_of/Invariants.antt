-- None of the steps so far has the class.
use Rattle.std.proofs.Common.{◌≡◌, drop}
use Rattle.seat_nesting.specs.Changing.{step_of}
use Rattle.seat_carrying.proofs.wanting.step_of.Given as goal

abbrev pub invariant-loop-step : goal.invariant-loop-step
invariant-loop-step l = step_of (drop l.step-index l.steps) l.class ≡ step_of l.steps l.class
