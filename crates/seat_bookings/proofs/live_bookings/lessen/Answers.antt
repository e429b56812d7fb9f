use Rattle.std.proofs.Common.{List, None, subst, sym}
use Rattle.seat_rules.specs.declared.booking.Booking.{Booking}
use Rattle.seat_bookings.specs.declared.live_bookings.Key.{Key}
use Rattle.seat_bookings.specs.Live.{key_for, IsListed, PutsWhere}
use Rattle.seat_bookings.proofs.Live.Lists.{listed_less, listed_gone}
use Rattle.seat_bookings.proofs.live_bookings.lessen.Goals as goal

pub returns-then-nth-command-clause-listed : goal.returns-then-nth-command-clause-listed
returns-then-nth-command-clause-listed c =
    let command = c.args.command.now in
    let P : List Booking → Type 0 = λ bs. IsListed bs c.args.index.now in
    subst P (sym c.take_off.ensures)
    (listed_less c.args.bookings.now.items c.args.index.now command.locator c.args.place command.class command.seats c.args.at c.nth.result.now
    c.requires.listed c.requires.found c.nth.ensures c.if-nth-command.true)

pub returns-clause-listed : goal.returns-clause-listed
returns-clause-listed c =
    let command = c.args.command.now in
    let K : Key → Type 0 = λ key. PutsWhere c.args.index.now c.forget.new.index key None in
    let puts : PutsWhere c.args.index.now c.forget.new.index (key_for command.locator c.args.place command.class) None = subst K c.key_for.ensures c.forget.ensures in
    let P : List Booking → Type 0 = λ bs. IsListed bs c.forget.new.index in
    subst P (sym c.take_off-2.ensures)
    (listed_gone c.args.bookings.now.items c.args.index.now c.forget.new.index command.locator c.args.place command.class command.seats c.args.at c.nth.result.now
    c.requires.listed c.requires.found c.nth.ensures c.if-nth-command.false puts)
