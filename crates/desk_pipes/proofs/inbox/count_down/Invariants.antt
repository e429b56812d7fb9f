-- Those of what is left are still to be counted.
use Rattle.std.proofs.Common.{◌≡◌, length}
use Rattle.desk_pipes.specs.Waiting.{behind_answers}
use Rattle.desk_pipes.proofs.inbox.count_down.Given as goal

abbrev pub invariant-loop-rest : goal.invariant-loop-rest
invariant-loop-rest l = behind_answers l.unanswered l.rest ≡ behind_answers l.initial.unanswered l.said

abbrev pub decreases-loop-rest : goal.decreases-loop-rest
decreases-loop-rest l = length l.rest
