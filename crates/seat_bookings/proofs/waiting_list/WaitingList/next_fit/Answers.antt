use Rattle.std.proofs.Common.{◌≡◌, subst}
use Rattle.seat_nesting.specs.Counting.{limits_of, table_of}
use Rattle.seat_bookings.specs.Queues.{next_fit, Waitlist}
use Rattle.seat_bookings.proofs.waiting_list.WaitingList.next_fit.Goals as goal

pub returns : goal.returns
returns c =
    let counts = c.args.counts.now in
    let P : Waitlist → Type 0 = λ l. c.next_fit.result ≡ next_fit (limits_of counts) (table_of counts) l.bookings c.args.from in
    subst P c.self.view_is (rw (← c.as_slice.ensures) c.next_fit.ensures)
