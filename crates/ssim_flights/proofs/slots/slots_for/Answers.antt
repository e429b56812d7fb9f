use Rattle.std.proofs.Common.{◌-◌, length, sym, ap, arith}
use Rattle.std.proofs.lemmas.Option.{get_or_from_slice_get}
use Rattle.ssim_flights.specs.Slots.{in_slot, PutsFirst}
use Rattle.ssim_flights.proofs.Slotting.{slots_more}
use Rattle.ssim_flights.proofs.slots.slots_for.Goals as goal

pub loop-n-preserved : goal.loop-n-preserved
loop-n-preserved c =
    let flight = c.flight-flight.result in
    let before = c.loop-n.invariant.2 in
    let more = c.in-Ok-add_legs.ensures.few in
    let legs = c.flight-flight.ensures.legs in
    let as_many = ap length c.as_slice.ensures in
    let lists : PutsFirst c.loop-n.held c.add_legs.new.held (c.loop-n.n - 1) (in_slot flight flight.legs (length c.loop-n.held.heads.items)) = rw c.as_slice.ensures at c.in-Ok-add_legs.ensures.lists in (
      omega arith,
      slots_more c.loop-n.held c.add_legs.new.held c.args.flights.now c.loop-n.n (c.loop-n.n - 1) flight (omega arith) (omega arith) (sym (get_or_from_slice_get c.args.flights.now (c.loop-n.n - 1) flight flight c.flight-flight.ensures.value)) c.loop-n.invariant.1 lists,
      omega arith,
    )
