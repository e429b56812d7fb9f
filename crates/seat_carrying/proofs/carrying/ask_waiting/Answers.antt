use Rattle.std.specs.List.{filter}
use Rattle.seat_rules.specs.Bookings.{is_waiting}
use Rattle.seat_carrying.specs.Owned.{AsksForFirst}
use Rattle.seat_carrying.specs.declared.owned.Owned.{Owned}
use Rattle.airline_base.proofs.Sending.{on_err_any}
use Rattle.seat_carrying.proofs.Asked.{one_more, stopped}
use Rattle.seat_carrying.proofs.carrying.ask_waiting.Goals as goal

pub loop-owned-preserved : goal.loop-owned-preserved
loop-owned-preserved c =
    one_more (λ o. is_waiting o.booking.status) c.args.core.now.grid c.args.core.now.cap c.args.core.now.journal c.args.live.now c.loop-owned.owned-index
    c.owned-item.result c.is_waiting.result c.loop-owned.core c.ask_if.new.core c.loop-owned.invariant c.loop-owned-test.true c.owned-item.is c.is_waiting.ensures
    c.in_ok-ask_if.ensures.line c.in_ok-ask_if.ensures.grid c.in_ok-ask_if.ensures.cap

pub returns-in_err-ask_if-clause-wanting : goal.returns-in_err-ask_if-clause-wanting
returns-in_err-ask_if-clause-wanting c =
    on_err_any c.from_residual.result
    (AsksForFirst c.args.core.now.grid c.args.core.now.journal c.ask_if.new.core.journal (filter (λ (o : Owned). is_waiting o.booking.status) c.args.live.now))
    (stopped (λ o. is_waiting o.booking.status) c.args.core.now.grid c.args.core.now.cap c.args.core.now.journal c.args.live.now c.loop-owned.owned-index
    c.owned-item.result c.is_waiting.result c.loop-owned.core c.ask_if.new.core c.loop-owned.invariant c.loop-owned-test.true c.owned-item.is c.is_waiting.ensures
    c.in_err-ask_if.ensures.turned c.in_err-ask_if.ensures.none)
