use Rattle.std.proofs.Common.{◌≡◌, ◌+◌, ◌-◌, ◌<◌, Some, length, arith, subst}
use Rattle.seat_bookings.proofs.Common.{Key}
use Rattle.seat_bookings.specs.Live.{PutsNumber}
use Rattle.seat_bookings.proofs.Live.Lists.{numbers_next}
use Rattle.seat_bookings.proofs.live_bookings.numbers_of.Goals as goal

pub loop-at-preserved : goal.loop-at-preserved
loop-at-preserved c =
    let at = c.loop-at.at in
    let old = c.loop-at.numbers in
    let new = c.put.new.numbers in
    let bookings = c.args.bookings.now in
    let booking = c.index-bookings-at.result in
    let next : at ≡ at - 1 + 1 = omega (arith, c.loop-at-test.true) in
    let inside : at - 1 < length bookings = omega (arith, c.loop-at-test.true, c.loop-at.invariant.within) in
    let puts = subst (λ (k : Key). PutsNumber old new k (Some booking.number)) c.key_of.ensures c.in-Ok.ensures in
    record {
      within = omega (arith, c.loop-at.invariant.within);
      found = numbers_next old new bookings (at - 1) at booking c.loop-at.invariant.found next inside c.index-bookings-at.is puts;
    }
