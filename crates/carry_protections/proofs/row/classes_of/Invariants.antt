-- What is left comes to what the text comes to.
use Rattle.std.proofs.Common.{length}
use Rattle.carry_protections.proofs.Pairs.{ComesTo}
use Rattle.carry_protections.proofs.row.classes_of.Given as goal

abbrev pub invariant-loop-rest : goal.invariant-loop-rest
invariant-loop-rest l = ComesTo l.text l.rest l.all

abbrev pub decreases-loop-rest : goal.decreases-loop-rest
decreases-loop-rest l = length l.rest
