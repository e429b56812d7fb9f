-- The advices so far are right.
use Rattle.std.proofs.Common.{take}
use Rattle.std.specs.List.{AllByRecursion}
use Rattle.seat_journal.specs.Text.{IsAdvice}
use Rattle.seat_scripts.proofs.readable.prove_advices.Given as goal

abbrev pub invariant-loop-advice : goal.invariant-loop-advice
invariant-loop-advice l = AllByRecursion IsAdvice (take l.advice-index l.advices)
