use Rattle.seat_rules.specs.Inventory.{state_now}
use Rattle.limit_changes.specs.Shorts.{unnamed_of}
use Rattle.limit_changes.proofs.Listing.{part_more, parts_whole}
use Rattle.limit_changes.proofs.shorts.unnamed_of.Goals as goal

pub loop-i-preserved : goal.loop-i-preserved
loop-i-preserved c =
    part_more (unnamed_of c.args.wanted.now (state_now c.args.core.now)) c.loop-i.i c.args.legs.now c.index-legs-i.result c.loop-i.all.items c.add_unnamed.new.all.items _
    c.loop-i.invariant c.loop-i-test.true c.index-legs-i.is c.in_ok-add_unnamed.ensures

pub returns : goal.returns
returns c = parts_whole (unnamed_of c.args.wanted.now (state_now c.args.core.now)) c.loop-i.i c.args.legs.now c.loop-i.all.items _ c.loop-i.invariant c.loop-i-test.false
