use Rattle.std.proofs.Common.{◌+◌, ◌-◌, vec_len}
use Rattle.seat_bookings.specs.Books.{SameBooks}
use Rattle.seat_bookings.proofs.books.open_books.Given as goal

abbrev pub invariant-opening : goal.invariant-opening
invariant-opening l = SameBooks l.fn.books.items l.books.items

abbrev pub decreases-opening : goal.decreases-opening
decreases-opening l = l.flight + 1 - vec_len l.books
