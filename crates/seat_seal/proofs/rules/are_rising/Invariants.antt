use Rattle.std.proofs.Common.{◌≡◌, length}
use Rattle.seat_seal.specs.Rules.{are_rising}
use Rattle.seat_seal.proofs.rules.are_rising.Given as goal

abbrev pub invariant-loop-rest : goal.invariant-loop-rest
invariant-loop-rest l = are_rising l.last l.rest ≡ are_rising 0 l.scripts

abbrev pub decreases-loop-rest : goal.decreases-loop-rest
decreases-loop-rest l = length l.rest
