use Rattle.std.proofs.Common.{ℕ, subst, sym, zero-add}
use Rattle.seat_rules.specs.Inventory.{state_now}
use Rattle.seat_desk.proofs.Texts.{put_more}
use Rattle.seat_loads.specs.Loads.{IsLegPart}
use Rattle.seat_loads.proofs.loads.put_flight.Goals as goal

pub loop-j-preserved : goal.loop-j-preserved
loop-j-preserved c =
    let leg = c.in_ok-put_kept.ensures in
    put_more (IsLegPart c.args.asked.now (state_now c.args.core.now) c.args.index c.args.flight.now) 0 c.loop-j.j c.as_slice-legs.result.now c.index-legs-j.result c.args.text.now.items c.loop-j.text.items
    c.put_kept.new.text.items leg.part c.loop-j.invariant c.loop-j-test.true c.index-legs-j.is
    (subst (λ (k : ℕ). IsLegPart c.args.asked.now (state_now c.args.core.now) c.args.index c.args.flight.now k c.index-legs-j.result leg.part) (sym (zero-add c.loop-j.j)) leg.is_part) leg.written
