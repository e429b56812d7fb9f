use Rattle.std.proofs.Common.{refl}
use Rattle.desk_hall.proofs.Departing.{leg_put, legs_put}
use Rattle.desk_hall.proofs.departed.put_legs.Goals as goal
use Rattle.seat_rules.specs.Journal.{replay}

pub loop-leg-init : goal.loop-leg-init
loop-leg-init g c = refl

pub loop-leg-preserved : goal.loop-leg-preserved
loop-leg-preserved g c =
    leg_put (replay c.args.serving.now.grid c.args.serving.now.journal).grid c.args.today c.args.flight c.loop-leg.leg c.args.legs.now
    c.index-legs-leg.result _ c.loop-leg.all.items c.put_leg.new.all.items c.loop-leg-test.true c.index-legs-leg.is c.loop-leg.invariant
    c.in_ok-put_leg.ensures

pub returns : goal.returns
returns g c =
    legs_put (replay c.args.serving.now.grid c.args.serving.now.journal).grid c.args.today c.args.flight c.loop-leg.leg c.args.legs.now
    _ c.loop-leg.all.items c.loop-leg-test.false c.loop-leg.invariant
