use Rattle.std.proofs.Common.{rules, ◌≡◌, ◌-◌, ◌<◌, ℕ, true, length, arith, Some, subst}
use Rattle.seat_bookings.specs.Demands.{is_booking_of, smallest_of, least_with}
use Rattle.seat_bookings.proofs.Waitlists.Departures.{floor_at}
use Rattle.seat_bookings.proofs.demands.smallest_of.Goals as goal

pub returns-then-booking-floor : goal.returns-then-booking-floor
returns-then-booking-floor c =
    let b = c.index-queue-at.result in
    let q = c.args.place in
    let k = c.args.class in
    let xs = c.args.queue.now in
    let here : is_booking_of c.args.place c.args.class c.index-queue-at.result ≡ true = search rules in
    let within : c.loop-at.at - 1 < length c.args.queue.now = omega (arith, c.loop-at.invariant.within) in
    let floor : c.index-queue-at.result.seats ≡ c.args.floor = c.if-booking-floor.true in
    let P : ℕ → Type 0 = λ n. least_with n (smallest_of q k xs) ≡ Some n → Some n ≡ smallest_of q k xs in
    subst P floor (floor_at q k xs (c.loop-at.at - 1) b within c.index-queue-at.is here) c.requires
