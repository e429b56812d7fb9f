use Rattle.std.proofs.Common.{◌++◌, refl}
use Rattle.seat_replies.specs.Changes.{on_legs}
use Rattle.seat_replies.proofs.Changing.{leg_put, legs_put}
use Rattle.seat_replies.proofs.row_changes.put_legs.Goals as goal

pub loop-leg-init : goal.loop-leg-init
loop-leg-init c = refl

pub loop-leg-preserved : goal.loop-leg-preserved
loop-leg-preserved c =
    leg_put c.args.row.now c.args.flight c.loop-leg.leg c.args.legs.now c.index-legs-leg.result (c.args.all.now.items ++ on_legs c.args.row.now c.args.flight 0 c.args.legs.now) c.loop-leg.all.items c.put_leg.new.all.items
    c.loop-leg-test.true c.index-legs-leg.is c.loop-leg.invariant c.in_ok-put_leg.ensures

pub returns : goal.returns
returns c =
    legs_put c.args.row.now c.args.flight c.loop-leg.leg c.args.legs.now (c.args.all.now.items ++ on_legs c.args.row.now c.args.flight 0 c.args.legs.now) c.loop-leg.all.items c.loop-leg-test.false c.loop-leg.invariant
