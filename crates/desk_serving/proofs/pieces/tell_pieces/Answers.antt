use Rattle.desk_serving.proofs.Groups.{pieces_told}
use Rattle.desk_serving.proofs.pieces.tell_pieces.Goals as goal

pub loop-session-preserved : goal.loop-session-preserved
loop-session-preserved g c =
    pieces_told c.args.hall.now c.loop-session.hall c.tell_piece.new.hall c.loop-session.session c.in_ok-_step._step c.loop-session.invariant.0
    c.loop-session.invariant.1 c.loop-session.invariant.2 c.in_ok-_step.ensures.step c.tell_piece.ensures.same
