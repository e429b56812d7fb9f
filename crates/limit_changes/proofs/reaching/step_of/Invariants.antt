-- No step so far is of the class.
use Rattle.std.proofs.Common.{◌≡◌, length}
use Rattle.seat_nesting.specs.Changing.{step_of}
use Rattle.limit_changes.proofs.reaching.step_of.Given as goal

abbrev pub invariant-loop-rest : goal.invariant-loop-rest
invariant-loop-rest l = step_of l.rest l.class ≡ step_of l.steps l.class

abbrev pub decreases-loop-rest : goal.decreases-loop-rest
decreases-loop-rest l = length l.rest
