-- Those so far were told their pieces.
use Rattle.std.proofs.Common.{◌≡◌}
use Rattle.desk_serving.specs.Groups.{AreSteps}
use Rattle.desk_serving.proofs.pieces.tell_pieces.Given as goal

abbrev pub invariant-loop-session : goal.invariant-loop-session
invariant-loop-session g l = AreSteps l.session l.initial.hall l.hall
    × (l.hall.serving ≡ l.initial.hall.serving) × (l.hall.today ≡ l.initial.hall.today)
