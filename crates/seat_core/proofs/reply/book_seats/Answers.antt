use Rattle.std.proofs.Common.{◌≡◌, ◌∷◌, ◌++◌, [], refl, true, false, nat_le, codes, if◌then◌else◌, sym, ap, ◌∙◌}
use Rattle.std.proofs.lemmas.Bool.{and_parts}
use Rattle.seat_nesting.specs.Nesting.{room, may_wait, is_listed}
use Rattle.seat_nesting.specs.Counting.{limits_of}
use Rattle.seat_rules.specs.declared.booking.Status.TheVariants.{Waiting}
use Rattle.seat_rules.specs.Bookings.{held, waiting}
use Rattle.seat_bookings.specs.Books.{book_at}
use Rattle.seat_rules.specs.Sequential.{advice_of, booking_of, pass, state_of, want_new, refused}
use Rattle.seat_core.proofs.Step.Reply.{fits_yes, fits_no, room_is, queued_is, need_closed, told_as}
use Rattle.seat_rules.specs.declared.action.Wish.TheVariants.{Need}
use Rattle.seat_core.proofs.reply.book_seats.Goals as goal

pub returns-then-fits : goal.returns-then-fits
returns-then-fits c =
    let fits : nat_le c.args.command.now.seats (room (limits_of c.args.counts.now) (held (book_at c.args.books.now c.args.place.flight)) c.args.place c.args.command.now.class) ≡ true =
    fits_yes c.args.counts.now c.args.books.now c.args.place c.args.command.now.class c.args.command.now.seats c.room.result c.requires.flight c.room.ensures c.if-fits.true in
    rw (c.in-Need.is, fits) (record { reply = sym c.reply.ensures.reply; released = sym c.reply.ensures.released; advices = c.reply.ensures.advices })

pub returns-then-may_list : goal.returns-then-may_list
returns-then-may_list c =
    let fits : nat_le c.args.command.now.seats (room (limits_of c.args.counts.now) (held (book_at c.args.books.now c.args.place.flight)) c.args.place c.args.command.now.class) ≡ false =
    fits_no c.args.counts.now c.args.books.now c.args.place c.args.command.now.class c.args.command.now.seats c.room.result c.requires.flight c.room.ensures c.if-fits.false in
    let both = and_parts (is_listed (limits_of c.args.counts.now) c.args.place c.args.command.now.class)
    (may_wait (limits_of c.args.counts.now) (waiting (book_at c.args.books.now c.args.place.flight)) c.args.place c.args.command.now.class c.args.command.now.seats) (sym c.may_list.ensures ∙ c.if-may_list.true) in
    rw (c.in-Need.is, fits, both.0, both.1)
    (record { reply = sym c.reply-then-may_list.ensures.reply; released = sym c.reply-then-may_list.ensures.released; advices = c.reply-then-may_list.ensures.advices })

pub returns-else-may_list : goal.returns-else-may_list
returns-else-may_list c =
    let s = state_of (limits_of c.args.counts.now) (book_at c.args.books.now c.args.place.flight) in
    let fits : nat_le c.args.command.now.seats (room (limits_of c.args.counts.now) (held (book_at c.args.books.now c.args.place.flight)) c.args.place c.args.command.now.class) ≡ false =
    fits_no c.args.counts.now c.args.books.now c.args.place c.args.command.now.class c.args.command.now.seats c.room.result c.requires.flight c.room.ensures c.if-fits.false in
    let closed : want_new Need s c.args.number c.args.command.now c.args.place false (is_listed (limits_of c.args.counts.now) c.args.place c.args.command.now.class)
    (may_wait (limits_of c.args.counts.now) (waiting (book_at c.args.books.now c.args.place.flight)) c.args.place c.args.command.now.class c.args.command.now.seats) ≡ refused s (codes "UC") =
    need_closed s c.args.number c.args.command.now c.args.place (is_listed (limits_of c.args.counts.now) c.args.place c.args.command.now.class)
    (may_wait (limits_of c.args.counts.now) (waiting (book_at c.args.books.now c.args.place.flight)) c.args.place c.args.command.now.class c.args.command.now.seats) (sym c.may_list.ensures ∙ c.if-may_list.false) in
    rw (c.in-Need.is, fits, closed) (record { reply = sym c.reply-in-Need.ensures.reply; released = sym c.reply-in-Need.ensures.released; advices = c.reply-in-Need.ensures.advices })

pub returns-then-fits-2 : goal.returns-then-fits-2
returns-then-fits-2 c =
    let fits : nat_le c.args.command.now.seats (room (limits_of c.args.counts.now) (held (book_at c.args.books.now c.args.place.flight)) c.args.place c.args.command.now.class) ≡ true =
    fits_yes c.args.counts.now c.args.books.now c.args.place c.args.command.now.class c.args.command.now.seats c.room.result c.requires.flight c.room.ensures c.if-fits-2.true in
    rw (c.in-Sell.is, fits) (record { reply = sym c.reply-then-fits-2.ensures.reply; released = sym c.reply-then-fits-2.ensures.released; advices = c.reply-then-fits-2.ensures.advices })

pub returns-then-may_queue : goal.returns-then-may_queue
returns-then-may_queue c =
    let fits : nat_le c.args.command.now.seats (room (limits_of c.args.counts.now) (held (book_at c.args.books.now c.args.place.flight)) c.args.place c.args.command.now.class) ≡ false =
    fits_no c.args.counts.now c.args.books.now c.args.place c.args.command.now.class c.args.command.now.seats c.room.result c.requires.flight c.room.ensures c.if-fits-2.false in
    let wait : may_wait (limits_of c.args.counts.now) (waiting (book_at c.args.books.now c.args.place.flight)) c.args.place c.args.command.now.class c.args.command.now.seats ≡ true =
    sym c.may_queue.ensures ∙ c.if-may_queue.true in
    rw (c.in-Sell.is, fits, wait) (record { reply = sym c.reply-then-may_queue.ensures.reply; released = sym c.reply-then-may_queue.ensures.released; advices = c.reply-then-may_queue.ensures.advices })

pub returns-else-may_queue : goal.returns-else-may_queue
returns-else-may_queue c =
    let fits : nat_le c.args.command.now.seats (room (limits_of c.args.counts.now) (held (book_at c.args.books.now c.args.place.flight)) c.args.place c.args.command.now.class) ≡ false =
    fits_no c.args.counts.now c.args.books.now c.args.place c.args.command.now.class c.args.command.now.seats c.room.result c.requires.flight c.room.ensures c.if-fits-2.false in
    let wait : may_wait (limits_of c.args.counts.now) (waiting (book_at c.args.books.now c.args.place.flight)) c.args.place c.args.command.now.class c.args.command.now.seats ≡ false =
    sym c.may_queue.ensures ∙ c.if-may_queue.false in
    rw (c.in-Sell.is, fits, wait) (record { reply = sym c.reply-in-Sell.ensures.reply; released = sym c.reply-in-Sell.ensures.released; advices = c.reply-in-Sell.ensures.advices })

pub returns-else-not-may_queue : goal.returns-else-not-may_queue
returns-else-not-may_queue c =
    let limits = limits_of c.args.counts.now in
    let book = book_at c.args.books.now c.args.place.flight in
    let waits = booking_of c.args.number c.args.command.now c.args.place Waiting in
    let wait : may_wait limits (waiting book) c.args.place c.args.command.now.class c.args.command.now.seats ≡ true = sym c.may_queue-in-Waitlist.ensures ∙ c.if-not-may_queue.false in
    let advices =
    queued_is limits book c.args.number c.args.command.now c.args.place c.requires.flight.quiet
    ∙ ap (λ r. if nat_le c.args.command.now.seats r then advice_of waits ∷ [] else [])
    (sym (room_is c.args.counts.now c.args.books.now c.args.place c.args.command.now.class c.requires.flight) ∙ sym c.room.ensures) in
    rw (c.in-Waitlist.is, wait)
    (record {
      reply = sym c.of.ensures;
      released = refl;
      advices = told_as (λ t. t.items) c.advices_of_queued.result (if nat_le c.args.command.now.seats c.room.result then advice_of waits ∷ [] else []) (pass limits [] [] (book ++ waits ∷ [])).advices advices c.advices_of_queued.ensures;
    })
