use Rattle.std.proofs.Common.{◌≡◌, length, vec_len, arith, refl, ap, ◌∙◌}
use Rattle.ssim_flights.specs.Slots.{slot_of}
use Rattle.ssim_flights.proofs.Slotting.{first_one}
use Rattle.ssim_flights.proofs.slots.add.Goals as goal

pub returns-clause-lists : goal.returns-clause-lists
returns-clause-lists c =
    let heads : vec_len c.args.held.now.heads ≡ length c.args.held.now.heads.items = omega arith in
    let entries : vec_len c.push.new.self ≡ length c.push.new.self.items = omega arith in
    first_one c.args.held.now _ c.args.departure.now c.args.n c.slot_of-slot.result c.index-next.result.now c.len-entry.result c.requires.inside
    (c.slot_of-slot.ensures.value ∙ ap (slot_of c.args.departure.now) (c.len.ensures ∙ heads)) c.index-next.ensures c.in-Ok.ensures.items (c.len-entry.ensures ∙ entries) refl
