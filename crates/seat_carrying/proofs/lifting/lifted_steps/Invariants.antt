-- The ranks below are lifted, and what they hold is counted.
use Rattle.seat_rules.specs.Bookings.{held, waiting}
use Rattle.seat_carrying.proofs.Counted.{AreLiftedFrom}
use Rattle.seat_carrying.proofs.lifting.lifted_steps.Given as goal

abbrev pub invariant-loop-rank : goal.invariant-loop-rank
invariant-loop-rank l = AreLiftedFrom l.steps l.top (held l.bookings l.flight l.leg) (waiting l.bookings l.flight l.leg) l.rank l.held l.new.items

abbrev pub decreases-loop-rank : goal.decreases-loop-rank
decreases-loop-rank l = l.rank
