use Rattle.std.proofs.Common.{◌++◌, refl}
use Rattle.seat_rules.specs.Inventory.{state_now}
use Rattle.page_questions.specs.Shown.{shown, shown_from, shown_legs}
use Rattle.page_questions.proofs.Eaching.{each_more, each_whole}
use Rattle.page_questions.proofs.shown.shown_legs.Goals as goal

pub loop-leg-init : goal.loop-leg-init
unfolding shown_legs
loop-leg-init c = rw c.new-all.ensures.items refl

pub loop-leg-preserved : goal.loop-leg-preserved
loop-leg-preserved c =
    each_more (λ j. shown_from (shown c.args.asked.now (state_now c.args.core.now) c.args.class j) 0 c.args.flights.now) 8 c.loop-leg.leg c.loop-leg.leg _
    c.loop-leg.all.items c.add_numbered.new.all.items _ c.loop-leg.invariant c.loop-leg-test.true c.in_ok-add_numbered.ensures refl

pub returns : goal.returns
returns c =
    each_whole (λ j. shown_from (shown c.args.asked.now (state_now c.args.core.now) c.args.class j) 0 c.args.flights.now) 8 c.loop-leg.leg c.loop-leg.leg
    c.loop-leg.all.items _ c.loop-leg.invariant c.loop-leg-test.false
