use Rattle.std.proofs.Common.{◌≡◌, [], true, false, refl, sym, ◌∙◌}
use Rattle.seat_nesting.specs.Counting.{limits_of, table_of}
use Rattle.seat_bookings.specs.Books.{book_at, queue_at}
use Rattle.seat_rules.specs.Sequential.{sales_by, may_set_sale, pass, state_of}
use Rattle.seat_rules.specs.Tables.{advices_by}
use Rattle.seat_core.proofs.Step.Reply.{changed_told, none_queued, told_as}
use Rattle.seat_core.proofs.sales.answer_sale.Goals as goal

pub returns-clause-says : goal.returns-clause-says
returns-clause-says c =
    let change = c.args.change.now in
    let now = sales_by (limits_of c.args.counts.now) change in
    let may : may_set_sale (state_of (limits_of c.args.counts.now) (book_at c.args.books.now c.args.change.now.flight)) c.args.change.now ≡ true =
    sym c.has_sale.ensures ∙ c.if-not-has_sale.false in
    rw may (record {
      reply = sym c.of.ensures;
      released = refl;
      advices = told_as (λ t. t.items) c.advices_opened.result (advices_by now (table_of c.args.counts.now) (queue_at c.args.books.now change.flight)) (pass now [] [] (book_at c.args.books.now change.flight)).advices
          (changed_told now c.args.counts.now c.args.books.now change.flight c.requires.flight) c.advices_opened.ensures.told;
    })

pub returns-then-not-has_sale-clause-says : goal.returns-then-not-has_sale-clause-says
returns-then-not-has_sale-clause-says c =
    let may : may_set_sale (state_of (limits_of c.args.counts.now) (book_at c.args.books.now c.args.change.now.flight)) c.args.change.now ≡ false =
    sym c.has_sale.ensures ∙ c.if-not-has_sale.true in
    rw may (record { reply = sym c.reply.ensures.reply; released = sym c.reply.ensures.released; advices = c.reply.ensures.advices })

pub advices_opened-requires-clause-has : goal.advices_opened-requires-clause-has
advices_opened-requires-clause-has c = sym c.has_sale.ensures ∙ c.if-not-has_sale.false

pub advices_opened-requires-clause-quiet : goal.advices_opened-requires-clause-quiet
advices_opened-requires-clause-quiet c = none_queued c.args.counts.now c.args.books.now c.args.change.now.flight c.requires.flight
