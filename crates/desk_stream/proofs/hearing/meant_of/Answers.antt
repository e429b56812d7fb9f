use Rattle.std.proofs.Common.{arith}
use Rattle.desk_stream.proofs.Hears.{of_manager, of_session, right_manager}
use Rattle.desk_stream.proofs.hearing.meant_of.Goals as goal

pub returns-then-session-eq0-clause-meant : goal.returns-then-session-eq0-clause-meant
returns-then-session-eq0-clause-meant c =
    of_manager c.args.flights.now c.args.served.now c.args.session c.args.desk.now c.order_of.new.manager c.args.line.now c.in_ok-order.order
    c.ordered.result (omega (arith, c.if-session-eq0.true)) c.requires.served c.in_ok-order.ensures.means c.ordered.ensures.value

pub returns-then-session-eq0-clause-right : goal.returns-then-session-eq0-clause-right
returns-then-session-eq0-clause-right c =
    right_manager c.args.flights.now c.args.served.now c.args.session c.ordered.result (omega (arith, c.if-session-eq0.true))
    c.requires.served c.ordered.ensures.right

pub returns-clause-meant : goal.returns-clause-meant
returns-clause-meant c =
    of_session c.args.flights.now c.args.session c.args.desk.now c.hear-meaning.new.self c.args.line.now c.hear-meaning.result
    c.meant_by.result (omega (arith, c.if-session-eq0.false)) c.hear-meaning.ensures.means c.hear-meaning.ensures.counted
    c.hear-meaning.ensures.same.0 c.meant_by.ensures.value

pub returns-clause-right : goal.returns-clause-right
returns-clause-right c = c.meant_by.ensures.right c.args.flights.now
