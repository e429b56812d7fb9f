use Rattle.std.proofs.Common.{refl}
use Rattle.carry_reports.proofs.FateTurns.{first_so_far, so_far_on}
use Rattle.carry_reports.proofs.fating.fates.Goals as goal

pub loop-booking-init : goal.loop-booking-init
loop-booking-init c =
    first_so_far c.args.carried.now c.args.live.now c.new-all.result.items c.args.carried.now.asked.now c.new-all.ensures.items refl

pub loop-booking-preserved : goal.loop-booking-preserved
loop-booking-preserved c =
    so_far_on c.args.carried.now c.args.live.now c.loop-booking.booking-index c.booking-item.result c.loop-booking.all.items c.push.new.all.items
    c.loop-booking.rest.now c.next_of-next.result.1.now c.next_of-next.result.0 c.fate_by-fate.result
    c.loop-booking.invariant c.loop-booking-test.true c.booking-item.is c.next_of-next.ensures.next c.next_of-next.ensures.behind c.fate_by-fate.ensures c.in_ok-push.ensures
