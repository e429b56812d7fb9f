use Rattle.std.proofs.Common.{◌-◌, length}
use Rattle.row_stretches.proofs.Painting.{PaintsUpTo}
use Rattle.row_stretches.proofs.stretches.Stretches.paint.Given as goal

abbrev pub invariant-loop-at : goal.invariant-loop-at
invariant-loop-at l = PaintsUpTo l.fn.self.rows.items l.self.rows.items l.self.skips.items l.from l.to l.at l.row

abbrev pub decreases-loop-at : goal.decreases-loop-at
decreases-loop-at l = length l.fn.self.rows.items - l.at
