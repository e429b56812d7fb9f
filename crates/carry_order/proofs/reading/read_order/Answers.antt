use Rattle.std.proofs.Common.{arith}
use Rattle.carry_order.proofs.Listing.{goes_next, goes_stop, not_done}
use Rattle.carry_order.proofs.reading.read_order.Goals as goal

pub returns-in-Err-clause-fault : goal.returns-in-Err-clause-fault
returns-in-Err-clause-fault c =
    let some = not_done c.is_empty.result c.loop-rest.rest.now c.is_empty.ensures c.loop-rest-test.true in
    goes_stop c.args.bytes.now c.loop-rest.line c.loop-rest.rest.now c.cut_line.result.0.now c.cut_line.result.1.now c.loop-rest.all.items c.in-Err.fault
    c.loop-rest.invariant.goes (c.cut_line.ensures.lines some) c.in-Err.ensures.fault

pub loop-rest-preserved : goal.loop-rest-preserved
loop-rest-preserved c =
    let some = not_done c.is_empty.result c.loop-rest.rest.now c.is_empty.ensures c.loop-rest-test.true in
    record {
      goes = goes_next c.args.bytes.now c.loop-rest.line c.loop-rest.rest.now c.cut_line.result.0.now c.cut_line.result.1.now c.loop-rest.all.items c.take_line.new.all.items
          c.loop-rest.invariant.goes (c.cut_line.ensures.lines some) c.in_default.ensures.taken;
      counted = omega (arith, c.loop-rest.invariant.counted, c.cut_line.ensures.shorter some);
    }
