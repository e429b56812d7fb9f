use Rattle.std.proofs.Common.{◌≡◌, ◌+◌, true, arith, ap, sym, ◌∙◌}
use Rattle.seat_nesting.specs.Nesting.{Ladders, Table, free, seats_at}
use Rattle.seat_nesting.specs.Counting.{limits_of, table_of, holds}
use Rattle.std.proofs.lemmas.Result.{IfOk-weaker}
use Rattle.seat_rules.specs.Tables.{advices_by}
use Rattle.seat_rules.proofs.Counters.Changes.{given}
use Rattle.seat_core.proofs.Passes.Undone.{fits_again, given_and_taken}
use Rattle.seat_core.proofs.pass.advices_after.Goals as goal

pub take-requires : goal.take-requires
take-requires c =
    let held : holds (limits_of c.args.counts.now) (table_of c.args.counts.now) c.args.place c.args.class c.args.seats ≡ true = sym c.holds.ensures ∙ c.if-not-holds.false in
    let limits = c.advices_of-told.ensures.limits ∙ c.give.ensures.limits in
    let seats = c.advices_of-told.ensures.seats ∙ given c.args.counts.now c.give.new.self c.args.place c.args.class c.args.seats c.give.ensures held in
    let same = ap (λ (g : Ladders). free g (table_of c.advices_of-told.new.counts) c.args.place c.args.class) limits
    ∙ ap (λ (t : Table). free (limits_of c.args.counts.now) t c.args.place c.args.class) seats in
    omega (arith, same, fits_again c.args.counts.now c.args.place c.args.class c.args.seats c.limits_are_kept.ensures held)

pub returns-clause-seats : goal.returns-clause-seats
returns-clause-seats c =
    let held : holds (limits_of c.args.counts.now) (table_of c.args.counts.now) c.args.place c.args.class c.args.seats ≡ true = sym c.holds.ensures ∙ c.if-not-holds.false in
    let seats = c.advices_of-told.ensures.seats ∙ given c.args.counts.now c.give.new.self c.args.place c.args.class c.args.seats c.give.ensures held in
    given_and_taken (limits_of c.args.counts.now) (table_of c.args.counts.now) (table_of c.take.new.self) c.args.place c.args.class c.args.seats held
    (λ f l k. c.take.ensures.seats f l k ∙ ap (λ (x : Table). x f l k + seats_at c.args.place c.args.class c.args.seats f l k) seats)

pub returns-clause-told : goal.returns-clause-told
returns-clause-told c =
    let held : holds (limits_of c.args.counts.now) (table_of c.args.counts.now) c.args.place c.args.class c.args.seats ≡ true = sym c.holds.ensures ∙ c.if-not-holds.false in
    let limits = ap (λ (g : Ladders). advices_by g (table_of c.give.new.self) c.args.queue.now.bookings) c.give.ensures.limits in
    let seats = ap (λ (t : Table). advices_by (limits_of c.args.counts.now) t c.args.queue.now.bookings)
    (given c.args.counts.now c.give.new.self c.args.place c.args.class c.args.seats c.give.ensures held) in
    IfOk-weaker c.advices_of-told.result _ _ (λ t e. e ∙ (limits ∙ seats)) c.advices_of-told.ensures.told
