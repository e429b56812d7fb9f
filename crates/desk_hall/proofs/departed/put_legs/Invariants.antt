-- What was put, and what is left to put.
use Rattle.std.proofs.Common.{◌≡◌, ◌++◌, drop}
use Rattle.desk_hall.specs.Departed.{closings_on}
use Rattle.seat_rules.specs.Journal.{replay}
use Rattle.desk_hall.proofs.departed.put_legs.Given as goal

abbrev pub invariant-loop-leg : goal.invariant-loop-leg
invariant-loop-leg g l =
    l.all.items ++ closings_on (replay l.serving.grid l.serving.journal).grid l.today l.flight l.leg (drop l.leg l.legs)
    ≡ l.initial.all.items ++ closings_on (replay l.serving.grid l.serving.journal).grid l.today l.flight 0 l.legs
