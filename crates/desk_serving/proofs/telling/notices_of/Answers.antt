use Rattle.desk_serving.proofs.Groups.{notice_told}
use Rattle.desk_serving.proofs.telling.notices_of.Goals as goal

pub loop-session-preserved : goal.loop-session-preserved
loop-session-preserved g c =
    notice_told c.args.hall.now c.loop-session.hall c.notice_of.new.hall c.loop-session.session c.loop-session.notices.items
    c.add_notice.new.notices.items c.in_ok-notice.notice c.loop-session.invariant.0 c.notice_of.ensures.same
    c.loop-session.invariant.1 c.in_ok-notice.ensures.own c.in_ok-add_notice.ensures
