-- Those so far that are the part's.
use Rattle.std.proofs.Common.{◌≡◌, take}
use Rattle.carry_parts.specs.Parts.{own_marks}
use Rattle.carry_parts.proofs.keeping.own_marks.Given as goal

abbrev pub invariant-loop-mark : goal.invariant-loop-mark
invariant-loop-mark l = l.own.items ≡ own_marks l.part l.flights (take l.mark-index l.marks)
