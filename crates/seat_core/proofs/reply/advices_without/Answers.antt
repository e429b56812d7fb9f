use Rattle.std.proofs.Common.{List, sym, ap, ◌∙◌}
use Rattle.std.proofs.lemmas.Result.{IfOk-weaker}
use Rattle.seat_nesting.specs.Counting.{limits_of, table_of}
use Rattle.seat_rules.specs.declared.booking.Booking.{Booking}
use Rattle.seat_rules.specs.Showing.{given_back}
use Rattle.seat_rules.specs.Tables.{advices_by}
use Rattle.seat_core.proofs.Step.Reply.{cancel_held, cancel_waiting}
use Rattle.seat_core.proofs.reply.advices_without.Goals as goal

pub returns-then-is_waiting-clause-told : goal.returns-then-is_waiting-clause-told
returns-then-is_waiting-clause-told c =
    let r = c.requires in
    let is = cancel_waiting c.args.counts.now c.args.books.now c.args.command.now c.args.place c.args.booking.now r.flight r.found r.order r.some r.enough (sym c.is_waiting.ensures ∙ c.if-is_waiting.true) in
    IfOk-weaker c.advices_of_rest.result _ _ (λ t e. e ∙ sym is) c.advices_of_rest.ensures

pub returns-in-Some-clause-told : goal.returns-in-Some-clause-told
returns-in-Some-clause-told c =
    let r = c.requires in
    let is = cancel_held c.args.counts.now c.args.books.now c.args.command.now c.args.place c.args.booking.now r.flight r.found r.order r.some r.enough (sym c.is_waiting.ensures ∙ c.if-is_waiting.false) in
    let queue = ap (λ (l : List Booking). advices_by (limits_of c.args.counts.now) (given_back (limits_of c.args.counts.now) (table_of c.args.counts.now) c.args.place c.args.command.now.class c.args.command.now.seats) l) c.in-Some.ensures.some in
    IfOk-weaker c.advices_after.result _ _ (λ t e. e ∙ (queue ∙ sym is)) c.advices_after.ensures.told

pub returns-in-None-clause-told : goal.returns-in-None-clause-told
returns-in-None-clause-told c =
    let r = c.requires in
    let is = cancel_held c.args.counts.now c.args.books.now c.args.command.now c.args.place c.args.booking.now r.flight r.found r.order r.some r.enough (sym c.is_waiting.ensures ∙ c.if-is_waiting.false) in
    let none = ap (λ (l : List Booking). advices_by (limits_of c.args.counts.now) (given_back (limits_of c.args.counts.now) (table_of c.args.counts.now) c.args.place c.args.command.now.class c.args.command.now.seats) l) c.in-None.ensures.none in
    c.new.ensures.items ∙ (sym none ∙ sym is)
