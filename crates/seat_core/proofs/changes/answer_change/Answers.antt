use Rattle.std.proofs.Common.{◌≡◌, [], true, false, refl, sym, ◌∙◌}
use Rattle.seat_nesting.specs.Counting.{limits_of, table_of}
use Rattle.seat_bookings.specs.Books.{book_at, queue_at}
use Rattle.seat_rules.specs.Sequential.{changed_by, may_change, pass, state_of}
use Rattle.seat_rules.specs.Tables.{advices_by}
use Rattle.seat_core.proofs.Step.Reply.{changed_told, may_is, none_queued, told_as}
use Rattle.seat_core.proofs.changes.answer_change.Goals as goal

pub returns-clause-says : goal.returns-clause-says
returns-clause-says c =
    let change = c.args.change.now in
    let now = changed_by (limits_of c.args.counts.now) change in
    let may : may_change (state_of (limits_of c.args.counts.now) (book_at c.args.books.now c.args.change.now.flight)) c.args.change.now ≡ true =
    may_is c.args.counts.now c.args.books.now c.args.change.now c.requires.flight ∙ (sym c.can_set.ensures ∙ c.if-not-can_set.false) in
    rw may (record {
      reply = sym c.of.ensures;
      released = refl;
      advices = told_as (λ t. t.items) c.advices_under.result (advices_by now (table_of c.args.counts.now) (queue_at c.args.books.now change.flight)) (pass now [] [] (book_at c.args.books.now change.flight)).advices
          (changed_told now c.args.counts.now c.args.books.now change.flight c.requires.flight) c.advices_under.ensures.told;
    })

pub returns-then-not-can_set-clause-says : goal.returns-then-not-can_set-clause-says
returns-then-not-can_set-clause-says c =
    let may : may_change (state_of (limits_of c.args.counts.now) (book_at c.args.books.now c.args.change.now.flight)) c.args.change.now ≡ false =
    may_is c.args.counts.now c.args.books.now c.args.change.now c.requires.flight ∙ (sym c.can_set.ensures ∙ c.if-not-can_set.true) in
    rw may (record { reply = sym c.reply.ensures.reply; released = sym c.reply.ensures.released; advices = c.reply.ensures.advices })

pub advices_under-requires-clause-may : goal.advices_under-requires-clause-may
advices_under-requires-clause-may c = sym c.can_set.ensures ∙ c.if-not-can_set.false

pub advices_under-requires-clause-quiet : goal.advices_under-requires-clause-quiet
advices_under-requires-clause-quiet c = none_queued c.args.counts.now c.args.books.now c.args.change.now.flight c.requires.flight
