use Rattle.seat_nesting.specs.Counting.{Takes}
use Rattle.seat_nesting.proofs.counts.Counts.take.Given as goal

-- the legs up to here are taken
abbrev pub invariant-loop-leg : goal.invariant-loop-leg
invariant-loop-leg l = Takes l.fn.self l.self (record l.fn.place { to = l.leg }) l.class l.seats
