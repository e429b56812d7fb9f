use Rattle.std.proofs.Common.{◌<◌, ◌++◌, ◌∷◌, [], List, vec_len, vec_capacity, arith, refl, subst, sym}
use Rattle.seat_rules.specs.declared.booking.Booking.{Booking}
use Rattle.seat_rules.specs.declared.booking.Status.TheVariants.{Waiting}
use Rattle.seat_rules.specs.Sequential.{booking_of}
use Rattle.seat_bookings.specs.Demands.{IsIndexed}
use Rattle.seat_bookings.proofs.Waitlists.Index.{added}
use Rattle.seat_bookings.proofs.Waitlists.Departures.{seats_spare}
use Rattle.seat_bookings.proofs.waiting_list.add_to.Goals as goal

pub join-requires-clause-few : goal.join-requires-clause-few
join-requires-clause-few c =
    let command = c.args.command.now in
    let few : command.seats < 65536 = omega arith in
    seats_spare c.args.bookings.now.items c.args.demands.now.items c.args.place command.class command.seats c.args.bookings.now.spare (vec_len c.args.demands.now) (vec_capacity c.args.demands.now) c.requires.indexed c.requires.spare few

pub returns-clause-indexed : goal.returns-clause-indexed
returns-clause-indexed c =
    let command = c.args.command.now in
    let few : command.seats < 65536 = omega arith in
    let b : Booking = booking_of c.args.number command c.args.place Waiting in
    let xs = c.args.bookings.now.items in
    let P : List Booking → Type 0 = λ ys. IsIndexed ys c.join.new.demands.items in
    subst P (sym c.add.ensures) (subst (IsIndexed (xs ++ b ∷ [])) (sym c.join.ensures) (added xs c.args.demands.now.items b c.requires.indexed c.requires.ordered refl few))
