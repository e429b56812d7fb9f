use Rattle.seat_tables.proofs.Putting.{put_more, put_none, put_whole}
use Rattle.pickup_questions.specs.PickupRows.{pickup_names, rows_of_pickup}
use Rattle.pickup_questions.proofs.pickup.put_pickups.Goals as goal

pub loop-i-init : goal.loop-i-init
loop-i-init c = put_none pickup_names c.args.sheet.now c.requires.ready

pub loop-i-preserved : goal.loop-i-preserved
loop-i-preserved c =
    put_more pickup_names rows_of_pickup 0 c.loop-i.i c.args.all.now c.index-all-i.result c.args.sheet.now c.loop-i.sheet c.put_pickup.new.sheet
    c.loop-i.invariant c.loop-i-test.true c.index-all-i.is c.in_ok-put_pickup.ensures

pub returns : goal.returns
returns c = put_whole pickup_names rows_of_pickup 0 c.loop-i.i c.args.all.now c.args.sheet.now c.loop-i.sheet c.loop-i.invariant c.loop-i-test.false
