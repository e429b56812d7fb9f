use Rattle.std.proofs.Common.{◌≡◌, length}
use Rattle.seat_nesting.specs.Ladders.{is_rising}
use Rattle.seat_nesting.proofs.ladder.is_rising.Given as goal

abbrev pub invariant-loop-rest : goal.invariant-loop-rest
invariant-loop-rest l = is_rising l.rest ≡ is_rising l.steps

abbrev pub decreases-loop-rest : goal.decreases-loop-rest
decreases-loop-rest l = length l.rest
