-- What the desk is told of the lines so far is written.
use Rattle.std.proofs.Common.{[], take}
use Rattle.desk_telling.specs.Telling.{AreToldBehind, told_of_each}
use Rattle.desk_hall.proofs.backlog.told_between.Given as goal

abbrev pub invariant-loop-line : goal.invariant-loop-line
invariant-loop-line l = AreToldBehind l.flights l.session (told_of_each l.journal l.session (take l.line-index l.lines)) [] l.text.items
