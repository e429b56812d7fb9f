-- The legs so far are among the days.
use Rattle.std.proofs.Common.{◌≡◌, ◌++◌, map, take}
use Rattle.seat_questions.specs.Coverage.{day_of}
use Rattle.seat_questions.proofs.coverage.put_days.Given as goal

abbrev pub invariant-loop-leg : goal.invariant-loop-leg
invariant-loop-leg l = l.days.items ≡ l.initial.days.items ++ map (day_of l.numbers l.flight) (take l.leg-index l.legs)
