use Rattle.std.proofs.Common.{[], sym, ◌∙◌}
use Rattle.seat_nesting.specs.Counting.{limits_of}
use Rattle.seat_bookings.specs.Books.{book_at}
use Rattle.seat_core.proofs.Step.Reply.{may_wait_is}
use Rattle.seat_core.proofs.reply.may_queue.Goals as goal

pub returns-in-None : goal.returns-in-None
returns-in-None c = c.may_wait_at.ensures ∙ may_wait_is (limits_of c.args.counts.now) (book_at c.args.books.now c.args.place.flight) [] c.args.place c.args.command.now.class c.args.command.now.seats (sym c.in-None.ensures.none ∙ c.requires.queue)
