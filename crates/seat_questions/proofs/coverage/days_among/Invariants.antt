-- The flights so far are among the days.
use Rattle.std.proofs.Common.{◌≡◌, take}
use Rattle.std.specs.List.{flat_map}
use Rattle.seat_questions.specs.Coverage.{days_of}
use Rattle.seat_questions.proofs.coverage.days_among.Given as goal

abbrev pub invariant-loop-i : goal.invariant-loop-i
invariant-loop-i l = l.days.items ≡ flat_map (days_of l.numbers) (take l.i l.flights)
