-- What is gone from `rest` was appended, and no failure was counted.
use Rattle.std.specs.Prelude.{length}
use Rattle.airline_base.specs.Noting.{Sent}
use Rattle.airline_base.proofs.writing.put_all.Given as goal

abbrev pub invariant-loop-rest : goal.invariant-loop-rest
invariant-loop-rest g l = Sent (g.W.Write.contents l.initial.out) (g.W.Write.contents l.out) (g.W.Failures.failure_count l.initial.out) (g.W.Failures.failure_count l.out) l.initial.rest l.rest

abbrev pub decreases-loop-rest : goal.decreases-loop-rest
decreases-loop-rest g l = length l.rest
