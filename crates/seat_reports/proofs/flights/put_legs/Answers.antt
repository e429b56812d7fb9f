use Rattle.seat_desk.specs.FlightsDesk.{IsLegText}
use Rattle.seat_desk.proofs.Texts.{put_none, put_more, put_whole}
use Rattle.seat_reports.proofs.flights.put_legs.Goals as goal

pub loop-leg-init : goal.loop-leg-init
loop-leg-init c = put_none IsLegText 0 c.args.text.now.items

pub loop-leg-preserved : goal.loop-leg-preserved
loop-leg-preserved c =
    let leg = c.in_ok-put_way.ensures in
    put_more IsLegText 0 c.loop-leg.leg-index c.args.legs.now c.leg-item.result c.args.text.now.items c.loop-leg.text.items c.put_way.new.text.items leg.0 c.loop-leg.invariant c.loop-leg-test.true c.leg-item.is leg.1 leg.2

pub returns : goal.returns
returns c = put_whole IsLegText 0 c.loop-leg.leg-index c.args.legs.now c.args.text.now.items c.loop-leg.text.items c.loop-leg.invariant c.loop-leg-test.false
