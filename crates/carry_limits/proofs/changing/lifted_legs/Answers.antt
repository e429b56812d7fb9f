use Rattle.std.proofs.Common.{[], refl}
use Rattle.seat_questions.proofs.Covers.{here, there}
use Rattle.seat_rules.specs.Sequential.{state_of}
use Rattle.limit_changes.specs.Legs.{legs_on}
use Rattle.carry_limits.proofs.Unlifted.{rows_more, rows_whole}
use Rattle.carry_limits.proofs.changing.lifted_legs.Goals as goal

pub loop-index-preserved : goal.loop-index-preserved
loop-index-preserved c =
    rows_more c.args.lifted.now (state_of c.args.file.now []) legs_on c.loop-index.index _ c.loop-index.index c.args.flights.now c.flight.result
    c.loop-index.all.items c.add_lifted.new.all.items _ c.loop-index.invariant
    (there c.args.flights.now c.loop-index.index c.flight.result c.flight.ensures.value)
    (here c.args.flights.now c.loop-index.index c.flight.result c.flight.ensures.value) c.in_ok-add_lifted.ensures refl

pub returns : goal.returns
returns c =
    rows_whole c.args.lifted.now (state_of c.args.file.now []) legs_on c.loop-index.index c.loop-index.index c.len-index-end.result c.args.flights.now
    c.loop-index.all.items _ c.loop-index.invariant c.len-index-end.ensures.value c.loop-index-test.false
