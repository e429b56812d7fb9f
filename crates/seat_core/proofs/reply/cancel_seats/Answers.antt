use Rattle.std.proofs.Common.{◌≡◌, ◌≤◌, ◌<◌, nat_le, true, false, Some, slice_get, arith, sym, ◌∙◌}
use Rattle.std.proofs.lemmas.Bool.Decides.{nat_tests}
use Rattle.std.proofs.lemmas.Result.{IfOk-weaker}
use Rattle.seat_rules.specs.Bookings.{is_for}
use Rattle.seat_bookings.specs.Books.{book_at}
use Rattle.seat_rules.proofs.Step.Found.{find_found, found_at}
use Rattle.seat_core.proofs.Step.Reply.{at_inside}
use Rattle.seat_core.proofs.reply.cancel_seats.Goals as goal

pub offset_bounds-book_at-at : goal.offset_bounds-book_at-at
offset_bounds-book_at-at c =
    let inside = at_inside (is_for c.args.command.now.locator c.args.place c.args.command.now.class) (book_at c.args.books.now c.args.place.flight) c.book_at.result.now c.args.at c.book_at.ensures c.requires.found in
    omega (arith, inside)

pub bounds-book_at-at : goal.bounds-book_at-at
bounds-book_at-at c =
    at_inside (is_for c.args.command.now.locator c.args.place c.args.command.now.class) (book_at c.args.books.now c.args.place.flight) c.book_at.result.now c.args.at c.book_at.ensures c.requires.found

pub advices_without-requires-clause-found : goal.advices_without-requires-clause-found
advices_without-requires-clause-found c =
    let here : slice_get (book_at c.args.books.now c.args.place.flight) c.args.at ≡ Some c.index-book_at-at.result =
    found_at (is_for c.args.command.now.locator c.args.place c.args.command.now.class) (book_at c.args.books.now c.args.place.flight) c.book_at.result.now c.args.at c.index-book_at-at.result
    c.book_at.ensures c.requires.found c.index-book_at-at.is in
    find_found (is_for c.args.command.now.locator c.args.place c.args.command.now.class) (book_at c.args.books.now c.args.place.flight) c.args.at c.requires.found ∙ here

pub returns-clause-says : goal.returns-clause-says
returns-clause-says c =
    let here : slice_get (book_at c.args.books.now c.args.place.flight) c.args.at ≡ Some c.index-book_at-at.result =
    found_at (is_for c.args.command.now.locator c.args.place c.args.command.now.class) (book_at c.args.books.now c.args.place.flight) c.book_at.result.now c.args.at c.index-book_at-at.result
    c.book_at.ensures c.requires.found c.index-book_at-at.is in
    let enough : c.args.command.now.seats ≤ c.index-book_at-at.result.seats = c.if-seats-booking.false in
    let test : nat_le c.args.command.now.seats c.index-book_at-at.result.seats ≡ true = grind (arith, nat_tests) in
    rw (here, test) (record { reply = sym c.of.ensures; released = sym c.released.ensures; advices = IfOk-weaker c.advices_without.result _ _ (λ t e. sym e) c.advices_without.ensures.told })

pub returns-then-seats-booking-clause-says : goal.returns-then-seats-booking-clause-says
returns-then-seats-booking-clause-says c =
    let here : slice_get (book_at c.args.books.now c.args.place.flight) c.args.at ≡ Some c.index-book_at-at.result =
    found_at (is_for c.args.command.now.locator c.args.place c.args.command.now.class) (book_at c.args.books.now c.args.place.flight) c.book_at.result.now c.args.at c.index-book_at-at.result
    c.book_at.ensures c.requires.found c.index-book_at-at.is in
    let over : c.index-book_at-at.result.seats < c.args.command.now.seats = c.if-seats-booking.true in
    let test : nat_le c.args.command.now.seats c.index-book_at-at.result.seats ≡ false = grind (arith, nat_tests) in
    rw (here, test) (record { reply = sym c.reply.ensures.reply; released = sym c.reply.ensures.released; advices = c.reply.ensures.advices })

pub advices_without-requires-clause-flight : goal.advices_without-requires-clause-flight
advices_without-requires-clause-flight c = c.requires.flight

pub advices_without-requires-clause-order : goal.advices_without-requires-clause-order
advices_without-requires-clause-order c = c.requires.order

pub advices_without-requires-clause-some : goal.advices_without-requires-clause-some
advices_without-requires-clause-some c = c.requires.some

pub advices_without-requires-clause-enough : goal.advices_without-requires-clause-enough
advices_without-requires-clause-enough c = c.if-seats-booking.false

pub returns-clause-limits : goal.returns-clause-limits
returns-clause-limits c = c.advices_without.ensures.limits

pub returns-clause-seats : goal.returns-clause-seats
returns-clause-seats c = c.advices_without.ensures.seats
