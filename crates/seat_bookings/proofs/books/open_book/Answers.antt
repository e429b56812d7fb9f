use Rattle.std.proofs.Common.{subst, sym}
use Rattle.seat_bookings.specs.declared.books.FlightBook.{FlightBook}
use Rattle.seat_bookings.specs.Books.{SameBooks}
use Rattle.seat_bookings.proofs.Live.Lists.{same_opened}
use Rattle.seat_bookings.proofs.books.open_book.Goals as goal

pub returns-clause-same : goal.returns-clause-same
returns-clause-same c =
    let b : FlightBook = record { bookings = c.new.result; queue = c.new-2.result } in
    subst (SameBooks c.args.books.now.items) (sym c.in_ok-push.ensures.items) (same_opened c.args.books.now.items b c.new.ensures c.new-2.ensures)
