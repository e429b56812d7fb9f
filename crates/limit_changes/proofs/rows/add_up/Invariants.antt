-- The changes of the ranks from this one on are there.
use Rattle.limit_changes.proofs.Listing.{UpSoFar}
use Rattle.limit_changes.proofs.rows.add_up.Given as goal

abbrev pub invariant-loop-i : goal.invariant-loop-i
invariant-loop-i l = UpSoFar l.leg l.old l.new l.initial.all.items l.all.items l.i

abbrev pub decreases-loop-i : goal.decreases-loop-i
decreases-loop-i l = l.i
