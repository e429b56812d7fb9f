-- Those so far are counted.
use Rattle.std.proofs.Common.{take}
use Rattle.carry_reports.specs.Counting.{AreSums}
use Rattle.carry_reports.proofs.counting.sums_of.Given as goal

abbrev pub invariant-loop-fated : goal.invariant-loop-fated
invariant-loop-fated l = AreSums (take l.fated-index l.all) l.fated-index l.sums
