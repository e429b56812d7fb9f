use Rattle.std.proofs.Common.{arith}
use Rattle.partner_lists.proofs.Walking.{goes_next, goes_stop, not_done}
use Rattle.partner_lists.proofs.reading.read_list.Goals as goal

pub returns-in-Err-clause-fault : goal.returns-in-Err-clause-fault
returns-in-Err-clause-fault c = λ other.
    let some = not_done c.is_empty.result c.loop-rest.rest.now c.is_empty.ensures c.loop-rest-test.true in
    goes_stop c.args.first c.args.bytes.now c.loop-rest.line c.loop-rest.rest.now c.cut_line.result.0.now c.cut_line.result.1.now c.loop-rest.rows c.in-Err.kind
    c.loop-rest.invariant.goes (c.cut_line.ensures.lines some) (c.in-Err.ensures.fault other)

pub loop-rest-preserved : goal.loop-rest-preserved
loop-rest-preserved c =
    let some = not_done c.is_empty.result c.loop-rest.rest.now c.is_empty.ensures c.loop-rest-test.true in
    record {
      goes = goes_next c.args.first c.args.bytes.now c.loop-rest.line c.loop-rest.rest.now c.cut_line.result.0.now c.cut_line.result.1.now c.loop-rest.rows c.take_line.new.rows
          c.loop-rest.invariant.goes (c.cut_line.ensures.lines some) c.in_default.ensures.taken;
      finds = c.in_default.ensures.names;
      counted = omega (arith, c.loop-rest.invariant.counted, c.cut_line.ensures.shorter some);
    }
