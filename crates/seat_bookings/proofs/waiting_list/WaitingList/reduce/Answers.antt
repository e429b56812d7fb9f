use Rattle.std.proofs.Common.{◌≡◌, ◌==◌, ℕ, position, Option, Some, None, subst, sym, ◌∙◌}
use Rattle.seat_rules.specs.declared.booking.Booking.{Booking}
use Rattle.seat_rules.specs.Bookings.{is_for}
use Rattle.seat_rules.specs.Sequential.{reduced}
use Rattle.seat_rules.specs.Applying.{IsOrdered}
use Rattle.seat_bookings.specs.Queues.{Waitlist}
use Rattle.seat_rules.proofs.Step.Effect.{reduced_none}
use Rattle.seat_bookings.proofs.waiting_list.WaitingList.reduce.Goals as goal

pub find_number-requires : goal.find_number-requires
find_number-requires c = subst IsOrdered (sym c.as_slice.ensures) c.self.invariant.ordered

pub reduce_at-requires-clause-found : goal.reduce_at-requires-clause-found
reduce_at-requires-clause-found c =
    let command = c.args.command.now in
    let xs = c.self.inside.bookings.items in
    let N : Waitlist → Type 0 = λ l. position (λ (b : Booking). b.number == c.args.number) l.bookings ≡ position (is_for command.locator c.args.place command.class) l.bookings in
    let told : Some c.in-Some.at ≡ position (λ (b : Booking). b.number == c.args.number) xs = rw (← c.as_slice.ensures) c.in-Some.ensures in
    sym (told ∙ subst N (sym c.self.view_is) c.requires)

pub returns-in-None : goal.returns-in-None
returns-in-None c =
    let command = c.args.command.now in
    let xs = c.self.inside.bookings.items in
    let N : Waitlist → Type 0 = λ l. position (λ (b : Booking). b.number == c.args.number) l.bookings ≡ position (is_for command.locator c.args.place command.class) l.bookings in
    let told : ◌≡◌ {A = Option ℕ} None (position (λ (b : Booking). b.number == c.args.number) xs) = rw (← c.as_slice.ensures) c.in-None.ensures in
    let P : Waitlist → Type 0 = λ l. l.bookings ≡ reduced (is_for command.locator c.args.place command.class) command.seats l.bookings in
    subst P c.self.view_is (sym (reduced_none (is_for command.locator c.args.place command.class) command.seats xs (told ∙ subst N (sym c.self.view_is) c.requires)))
