-- The lines so far were taken, and the seal has the day.
use Rattle.std.proofs.Common.{take}
use Rattle.desk_serving.specs.Daily.{IsSealedOn}
use Rattle.desk_serving.specs.Going.{GoesOn}
use Rattle.desk_serving.specs.Groups.{AreTaken}
use Rattle.desk_serving.proofs.group.answer_group.Given as goal

abbrev pub invariant-loop-one : goal.invariant-loop-one
invariant-loop-one g l = GoesOn g.D.Tape.seen g.D.Tape.may_leave g.D.Tape.unsynced g.D.Failures.failure_count l.initial.hall.serving l.hall.serving
    × IsSealedOn g.K.Replaced.named g.K.Replaced.may_leave g.K.Replaced.kept_may_leave g.K.Failures.failure_count l.hall.today l.initial.entry l.entry l.initial.seals l.seals
    × AreTaken l.closes l.initial.hall (take l.one-index l.said) l.hall l.goes_on
