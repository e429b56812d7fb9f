use Rattle.std.proofs.Common.{refl}
use Rattle.seat_questions.proofs.Covers.{here, there}
use Rattle.limit_changes.proofs.Keeping.{part_more, parts_whole}
use Rattle.carry_limits.specs.Overs.{flight_overs}
use Rattle.carry_limits.proofs.counting.overs.Goals as goal

pub loop-index-preserved : goal.loop-index-preserved
loop-index-preserved c =
    part_more (flight_overs c.args.file.now c.args.by.now) c.loop-index.index _ c.loop-index.index c.args.flights.now c.flight.result c.loop-index.all.items c.add_legs.new.all.items _
    c.loop-index.invariant (there c.args.flights.now c.loop-index.index c.flight.result c.flight.ensures.value)
    (here c.args.flights.now c.loop-index.index c.flight.result c.flight.ensures.value) c.in_ok-add_legs.ensures refl

pub returns : goal.returns
returns c =
    parts_whole (flight_overs c.args.file.now c.args.by.now) c.loop-index.index c.loop-index.index c.len-index-end.result c.args.flights.now c.loop-index.all.items _ c.loop-index.invariant
    c.len-index-end.ensures.value c.loop-index-test.false
