use Rattle.seat_nesting.specs.Counting.{Gives}
use Rattle.seat_nesting.proofs.counts.Counts.give.Given as goal

-- the legs up to here are given back
abbrev pub invariant-loop-leg : goal.invariant-loop-leg
invariant-loop-leg l = Gives l.fn.self l.self (record l.fn.place { to = l.leg }) l.class l.seats
