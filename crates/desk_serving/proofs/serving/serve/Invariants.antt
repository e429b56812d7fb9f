-- The groups so far were answered, the seal has the day, and what they came to is counted.
use Rattle.desk_serving.specs.Daily.{IsSealedOn}
use Rattle.desk_serving.specs.Going.{GoesOn}
use Rattle.desk_serving.specs.Groups.{GoesThrough}
use Rattle.desk_status.specs.Tallies.{Counts}
use Rattle.desk_serving.proofs.serving.serve.Given as goal

abbrev pub invariant-loop : goal.invariant-loop
invariant-loop g l = GoesOn g.D.Tape.seen g.D.Tape.may_leave g.D.Tape.unsynced g.D.Failures.failure_count l.initial.hall.serving l.hall.serving
    × IsSealedOn g.K.Replaced.named g.K.Replaced.may_leave g.K.Replaced.kept_may_leave g.K.Failures.failure_count l.hall.today l.initial.entry l.entry l.initial.seals l.seals
    × Counts l.tally l.hall.serving.journal × GoesThrough l.closes l.initial.hall l.hall
