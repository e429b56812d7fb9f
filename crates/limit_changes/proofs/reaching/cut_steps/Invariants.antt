-- The ranks from this one on are cut.
use Rattle.seat_nesting.specs.Nesting.{ladder_at}
use Rattle.seat_rules.specs.Bookings.{held}
use Rattle.seat_rules.specs.Inventory.{state_now}
use Rattle.limit_changes.proofs.Ranking.{CutSoFar}
use Rattle.limit_changes.proofs.reaching.cut_steps.Given as goal

abbrev pub invariant-loop-i : goal.invariant-loop-i
invariant-loop-i l =
    CutSoFar l.wanted (held (state_now l.core).bookings l.flight l.leg) (ladder_at (state_now l.core).grid l.flight l.leg) l.steps.items l.i l.below

abbrev pub decreases-loop-i : goal.decreases-loop-i
decreases-loop-i l = l.i
