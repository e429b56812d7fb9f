use Rattle.std.proofs.Common.{ℕ, subst, sym, zero-add}
use Rattle.seat_rules.specs.Inventory.{state_now}
use Rattle.seat_desk.proofs.Texts.{put_more}
use Rattle.seat_questions.specs.Why.{IsLegPart}
use Rattle.seat_questions.proofs.legs.put_legs.Goals as goal

pub loop-j-preserved : goal.loop-j-preserved
loop-j-preserved c =
    let leg = c.in_ok-put_leg.ensures in
    put_more (IsLegPart (state_now c.args.core.now) c.args.place) 0 c.loop-j.j c.args.legs.now c.index-legs-j.result c.args.text.now.items c.loop-j.text.items c.put_leg.new.text.items
    leg.part c.loop-j.invariant c.loop-j-test.true c.index-legs-j.is
    (subst (λ (k : ℕ). IsLegPart (state_now c.args.core.now) c.args.place k c.index-legs-j.result leg.part) (sym (zero-add c.loop-j.j)) leg.is_part) leg.put
