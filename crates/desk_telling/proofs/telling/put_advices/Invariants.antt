-- What the desk is told of the advices so far is written.
use Rattle.std.proofs.Common.{take}
use Rattle.desk_telling.specs.Telling.{AreToldBehind, advices_told}
use Rattle.desk_telling.proofs.telling.put_advices.Given as goal

abbrev pub invariant-loop-advice : goal.invariant-loop-advice
invariant-loop-advice l = AreToldBehind l.flights l.desk (advices_told l.journal l.desk l.line (take l.advice-index l.advice-items)) l.initial.text.items l.text.items
