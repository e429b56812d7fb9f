use Rattle.std.proofs.Common.{◌≡◌, subst, sym, ◌∙◌}
use Rattle.seat_rules.specs.Applying.{IsOrdered}
use Rattle.seat_bookings.specs.Queues.{without, Waitlist}
use Rattle.seat_bookings.proofs.Waitlists.Departures.{number_gone}
use Rattle.seat_bookings.proofs.Waitlists.Queue.{without_none}
use Rattle.seat_bookings.proofs.waiting_list.WaitingList.take_out.Goals as goal

pub find_number-requires : goal.find_number-requires
find_number-requires c = subst IsOrdered (sym c.as_slice.ensures) c.self.invariant.ordered

pub returns-in-Some : goal.returns-in-Some
returns-in-Some c =
    let xs = c.self.inside.bookings.items in
    let P : Waitlist → Type 0 = λ l. c.take_at.new.bookings.items ≡ without l.bookings c.args.number in
    subst P c.self.view_is (c.take_at.ensures.gone ∙ sym (number_gone xs c.args.number c.in-Some.at (rw (← c.as_slice.ensures) c.in-Some.ensures)))

pub returns-in-None : goal.returns-in-None
returns-in-None c =
    let xs = c.self.inside.bookings.items in
    let P : Waitlist → Type 0 = λ l. l.bookings ≡ without l.bookings c.args.number in
    subst P c.self.view_is (sym (without_none xs c.args.number (rw (← c.as_slice.ensures) c.in-None.ensures)))
