use Rattle.std.proofs.Common.{◌≡◌, ◌+◌, List, length, refl, ◌∙◌}
use Rattle.seat_nesting.specs.Nesting.{Steps}
use Rattle.limit_changes.proofs.Keeping.{parts_whole}
use Rattle.carry_limits.specs.Legs.{leg_ladder, leg_ladders}
use Rattle.carry_limits.specs.Lifting.{lifted_on}
use Rattle.carry_limits.proofs.Grids.{legs_more}
use Rattle.carry_limits.proofs.Lifted.{closed_more, closed_nested, ladder_more, leg_more}
use Rattle.carry_limits.proofs.lifting.add_flight.Goals as goal

pub loop-leg-preserved : goal.loop-leg-preserved
loop-leg-preserved c = record {
  flights = c.in_ok-add_leg.ensures.flights ∙ c.loop-leg.invariant.flights;
  so_far = leg_more (lifted_on c.args.seasons.now c.args.by.now c.args.flight) c.loop-leg.plan.legs c.add_leg.new.plan.legs c.loop-leg.leg c.args.legs.now
      (leg_ladders (lifted_on c.args.seasons.now c.args.by.now c.args.flight) c.args.legs.now)
      c.loop-leg.invariant.so_far c.loop-leg-test.true c.in_ok-add_leg.ensures.value;
  nested = ladder_more c.loop-leg.plan.legs c.add_leg.new.plan.legs (lifted_on c.args.seasons.now c.args.by.now c.args.flight c.loop-leg.leg) c.loop-leg.invariant.nested
      c.in_ok-add_leg.ensures.nested c.in_ok-add_leg.ensures.value;
  file = legs_more c.args.seasons.now.file.now c.args.flight c.loop-leg.leg (c.loop-leg.leg + 1) c.loop-leg.invariant.file c.in_ok-add_leg.ensures.file refl;
}

pub returns-clause-value : goal.returns-clause-value
returns-clause-value c =
    let whole : List Steps = leg_ladders (lifted_on c.args.seasons.now c.args.by.now c.args.flight) c.args.legs.now in
    let legs : c.loop-leg.plan.legs ≡ whole = parts_whole (leg_ladder (lifted_on c.args.seasons.now c.args.by.now c.args.flight)) c.loop-leg.leg c.loop-leg.leg (length c.args.legs.now)
    c.args.legs.now c.loop-leg.plan.legs whole c.loop-leg.invariant.so_far refl c.loop-leg-test.false in
    closed_more c.close_flight.result c.args.plan.now c.loop-leg.plan c.close_flight.new.self whole c.loop-leg.invariant.flights legs c.close_flight.ensures

pub returns-clause-nested : goal.returns-clause-nested
returns-clause-nested c =
    let whole : List Steps = leg_ladders (lifted_on c.args.seasons.now c.args.by.now c.args.flight) c.args.legs.now in
    let legs : c.loop-leg.plan.legs ≡ whole = parts_whole (leg_ladder (lifted_on c.args.seasons.now c.args.by.now c.args.flight)) c.loop-leg.leg c.loop-leg.leg (length c.args.legs.now)
    c.args.legs.now c.loop-leg.plan.legs whole c.loop-leg.invariant.so_far refl c.loop-leg-test.false in
    closed_nested c.close_flight.result c.loop-leg.plan.legs whole c.loop-leg.invariant.nested legs
