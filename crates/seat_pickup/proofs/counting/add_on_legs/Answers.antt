use Rattle.std.proofs.Common.{arith}
use Rattle.seat_pickup.proofs.Counted.{legs_all, legs_more, legs_none}
use Rattle.seat_pickup.proofs.counting.add_on_legs.Goals as goal

pub loop-leg-init : goal.loop-leg-init
loop-leg-init c = record { legs = legs_none c.args.place c.args.seats c.args.row.now.items; within = omega arith }

pub loop-leg-preserved : goal.loop-leg-preserved
loop-leg-preserved c = record {
  legs =
      legs_more c.args.place c.loop-leg.leg c.args.seats c.args.row.now.items c.loop-leg.row.items c.add_on_leg.new.row.items
      c.loop-leg.invariant.legs c.in_ok-add_on_leg.ensures;
  within = omega (arith, c.loop-leg-test.true);
}

pub returns : goal.returns
returns c =
    legs_all c.args.place c.args.class c.loop-leg.leg c.args.seats c.args.row.now.items c.loop-leg.row.items c.loop-leg.invariant.legs
    c.loop-leg-test.false
