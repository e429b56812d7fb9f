use Rattle.row_stretches.proofs.Painting.{SkipNone}
use Rattle.row_stretches.proofs.stretches.Stretches.new.Given as goal

abbrev pub invariant-loop-i : goal.invariant-loop-i
invariant-loop-i l = SkipNone l.skips.items l.i
