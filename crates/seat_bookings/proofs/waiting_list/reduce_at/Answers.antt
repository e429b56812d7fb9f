use Rattle.std.proofs.Common.{List, subst, sym, ◌∙◌}
use Rattle.seat_rules.specs.declared.booking.Booking.{Booking}
use Rattle.seat_rules.specs.Bookings.{is_for}
use Rattle.seat_rules.specs.Sequential.{reduced}
use Rattle.seat_bookings.specs.Demands.{IsIndexed}
use Rattle.seat_rules.proofs.Step.Reduced.{reduced_gone}
use Rattle.seat_bookings.proofs.Waitlists.Departures.{reduced_enough, reduced_indexed}
use Rattle.seat_bookings.proofs.waiting_list.reduce_at.Goals as goal

pub returns-then-seats-command-clause-reduced : goal.returns-then-seats-command-clause-reduced
returns-then-seats-command-clause-reduced c =
    let command = c.args.command.now in
    c.take_at.ensures.gone
    ∙ sym (reduced_gone (is_for command.locator c.args.place command.class) command.seats c.args.bookings.now.items c.args.at c.nth-booking.result.now c.requires.found c.nth-booking.ensures c.if-seats-command.true)

pub lessen-requires : goal.lessen-requires
lessen-requires c =
    let command = c.args.command.now in
    reduced_enough c.args.bookings.now.items c.args.demands.now.items command.locator c.args.place command.class command.seats c.args.at c.nth-booking.result.now c.requires.indexed c.requires.found c.nth-booking.ensures c.if-seats-command.false

pub returns-clause-indexed : goal.returns-clause-indexed
returns-clause-indexed c =
    let command = c.args.command.now in
    let xs = c.args.bookings.now.items in
    let after = reduced_indexed xs c.args.demands.now.items command.locator c.args.place command.class command.seats c.args.at c.nth-booking.result.now c.requires.indexed c.requires.found c.nth-booking.ensures c.if-seats-command.false in
    let P : List Booking → Type 0 = λ ys. IsIndexed ys c.lessen.new.demands.items in
    subst P (sym c.take_off.ensures) (subst (IsIndexed (reduced (is_for command.locator c.args.place command.class) command.seats xs)) (sym c.lessen.ensures) after)
