-- What was put, and what is left to put.
use Rattle.std.proofs.Common.{◌≡◌, ◌++◌, drop}
use Rattle.desk_hall.specs.Departed.{closings_from}
use Rattle.seat_rules.specs.Journal.{replay}
use Rattle.desk_hall.proofs.departed.closings.Given as goal

abbrev pub invariant-loop-number : goal.invariant-loop-number
invariant-loop-number g l =
    l.all.items ++ closings_from (replay l.serving.grid l.serving.journal).grid l.today l.number (drop l.number l.flights)
    ≡ closings_from (replay l.serving.grid l.serving.journal).grid l.today 0 l.flights
