use Rattle.std.proofs.Common.{arith}
use Rattle.carry_protections.proofs.Following.{goes_next, goes_stop, not_done}
use Rattle.carry_protections.proofs.course.read_courses.Goals as goal

pub returns-in-Err-clause-fault : goal.returns-in-Err-clause-fault
returns-in-Err-clause-fault c = λ other.
    let some = not_done c.is_empty.result c.loop-rest.rest.now c.is_empty.ensures c.loop-rest-test.true in
    goes_stop c.args.old.now c.args.new.now c.args.bytes.now c.loop-rest.line c.loop-rest.rest.now c.cut_line.result.0.now c.cut_line.result.1.now c.loop-rest.all c.in-Err.kind
    c.loop-rest.invariant.goes (c.cut_line.ensures.lines some) (c.in-Err.ensures.fault other)

pub loop-rest-preserved : goal.loop-rest-preserved
loop-rest-preserved c =
    let some = not_done c.is_empty.result c.loop-rest.rest.now c.is_empty.ensures c.loop-rest-test.true in
    record {
      goes = goes_next c.args.old.now c.args.new.now c.args.bytes.now c.loop-rest.line c.loop-rest.rest.now c.cut_line.result.0.now c.cut_line.result.1.now c.loop-rest.all c.take_line.new.all
          c.loop-rest.invariant.goes (c.cut_line.ensures.lines some) c.in_default.ensures.taken;
      counted = omega (arith, c.loop-rest.invariant.counted, c.cut_line.ensures.shorter some);
    }
