use Rattle.std.proofs.Common.{◌∙◌, List, subst}
use Rattle.std.proofs.lemmas.Result.{on_err_weaker, on_ok_weaker}
use Rattle.airline_base.proofs.Sending.{on_err_any}
use Rattle.std.specs.List.{filter}
use Rattle.seat_nesting.specs.Nesting.{Ladders}
use Rattle.seat_rules.specs.Bookings.{is_held, is_waiting}
use Rattle.seat_carrying.specs.Owned.{AsksForFirst, owned_in_turn}
use Rattle.seat_carrying.specs.declared.owned.Owned.{Owned}
use Rattle.seat_carrying.proofs.Asked.{behind_held, first_of_both, has_the_very, loses_nobody, rest_of_both}
use Rattle.seat_carrying.proofs.carrying.carry.Goals as goal

pub returns-clause-lines : goal.returns-clause-lines
returns-clause-lines c =
    on_ok_weaker c.ask_waiting.result
    (λ rest. behind_held c.args.core.now c.ask_held.new.core c.ask_waiting.new.core c.args.live.now c.in_ok-ask_held.ensures.grid c.in_ok-ask_held.ensures.lines rest)
    c.ask_waiting.ensures.lines

pub returns-clause-nobody : goal.returns-clause-nobody
returns-clause-nobody c =
    on_ok_weaker c.ask_waiting.result
    (λ lines. loses_nobody c.args.core.now c.ask_waiting.new.core c.args.live.now (c.ask_waiting.ensures.grid ∙ c.in_ok-ask_held.ensures.grid) lines)
    (returns-clause-lines c)

pub returns-clause-very : goal.returns-clause-very
returns-clause-very c =
    on_ok_weaker c.ask_waiting.result
    (λ lines. has_the_very c.args.core.now c.ask_waiting.new.core c.args.live.now (c.ask_waiting.ensures.grid ∙ c.in_ok-ask_held.ensures.grid) lines)
    (returns-clause-lines c)

pub returns-in_err-ask_held-clause-wanting : goal.returns-in_err-ask_held-clause-wanting
returns-in_err-ask_held-clause-wanting c =
    let held : List Owned = filter (λ (o : Owned). is_held o.booking.status) c.args.live.now in
    let waits : List Owned = filter (λ (o : Owned). is_waiting o.booking.status) c.args.live.now in
    on_err_any c.from_residual.result
    (AsksForFirst c.args.core.now.grid c.args.core.now.journal c.ask_held.new.core.journal (owned_in_turn c.args.live.now))
    (first_of_both c.args.core.now.grid c.args.core.now.journal c.ask_held.new.core.journal held waits c.in_err-ask_held.ensures.wanting)

pub returns-clause-wanting : goal.returns-clause-wanting
returns-clause-wanting c =
    let held : List Owned = filter (λ (o : Owned). is_held o.booking.status) c.args.live.now in
    let waits : List Owned = filter (λ (o : Owned). is_waiting o.booking.status) c.args.live.now in
    on_err_weaker c.ask_waiting.result
    (λ a. rest_of_both c.args.core.now.grid c.args.core.now.journal c.ask_held.new.core.journal c.ask_waiting.new.core.journal held waits
    c.in_ok-ask_held.ensures.lines
    (subst (λ (g : Ladders). AsksForFirst g c.ask_held.new.core.journal c.ask_waiting.new.core.journal waits) c.in_ok-ask_held.ensures.grid a))
    c.ask_waiting.ensures.wanting
