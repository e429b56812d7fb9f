use Rattle.std.proofs.Common.{length}
use Rattle.seat_handing.proofs.several.+mark_all.Given as goal

abbrev pub decreases-mark_all : goal.decreases-mark_all
decreases-mark_all g l = length l.marks.now
