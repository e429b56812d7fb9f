use Rattle.std.proofs.Common.{arith}
use Rattle.airimp_lines.proofs.Progress.{at_start, whole_found, whole_only, at_fault, at_memory, stop_only, cut_next, cut_stop, not_done, done_is}
use Rattle.airimp_lines.proofs.RightLines.{right_script}
use Rattle.airimp_lines.proofs.script.read_script.Goals as goal

pub loop-rest-init : goal.loop-rest-init
loop-rest-init c = record { at = rw c.new-requests.ensures (at_start c.args.today c.args.bytes.now); counted = omega arith }

pub returns-in-Err-clause-only : goal.returns-in-Err-clause-only
returns-in-Err-clause-only c = λ requests h.
    let some = not_done c.is_empty.result c.loop-rest.rest.now c.is_empty.ensures c.loop-rest-test.true in
    let stop = cut_stop c.loop-rest.message c.loop-rest.rest.now c.cut_line.result.0.now c.cut_line.result.1.now c.in-Err.kind c.cut_line.ensures.value c.in-Err.ensures.fault in
    stop_only c.args.today c.args.bytes.now c.loop-rest.line c.loop-rest.message c.loop-rest.rest.now c.loop-rest.requests requests c.in-Err.kind c.loop-rest.invariant.at some stop h

pub returns-in-Err-clause-fault : goal.returns-in-Err-clause-fault
returns-in-Err-clause-fault c = λ other.
    let stop = cut_stop c.loop-rest.message c.loop-rest.rest.now c.cut_line.result.0.now c.cut_line.result.1.now c.in-Err.kind c.cut_line.ensures.value c.in-Err.ensures.fault in
    at_fault c.args.today c.args.bytes.now c.loop-rest.line c.loop-rest.message c.loop-rest.rest.now c.loop-rest.requests c.in-Err.kind c.loop-rest.invariant.at stop other

pub returns-in-Err-clause-memory : goal.returns-in-Err-clause-memory
returns-in-Err-clause-memory c = λ is.
    let stop = cut_stop c.loop-rest.message c.loop-rest.rest.now c.cut_line.result.0.now c.cut_line.result.1.now c.in-Err.kind c.cut_line.ensures.value c.in-Err.ensures.fault in
    at_memory c.args.today c.args.bytes.now c.loop-rest.line c.loop-rest.message c.loop-rest.rest.now c.loop-rest.requests c.in-Err.kind c.loop-rest.invariant.at stop is

pub loop-rest-smaller : goal.loop-rest-smaller
loop-rest-smaller c = c.cut_line.ensures.shorter (not_done c.is_empty.result c.loop-rest.rest.now c.is_empty.ensures c.loop-rest-test.true)

pub loop-rest-preserved : goal.loop-rest-preserved
loop-rest-preserved c =
    let some = not_done c.is_empty.result c.loop-rest.rest.now c.is_empty.ensures c.loop-rest-test.true in
    record {
      at = cut_next c.args.today c.args.bytes.now c.loop-rest.line c.loop-rest.message c.in-Ok.next c.loop-rest.rest.now c.cut_line.result.0.now c.cut_line.result.1.now c.loop-rest.requests c.take_line.new.requests c.cut_line.ensures.value c.loop-rest.invariant.at some c.in-Ok.ensures.taken c.in-Ok.ensures.added;
      counted = omega (arith, c.loop-rest.invariant.counted, c.cut_line.ensures.shorter some);
    }

pub returns-clause-found : goal.returns-clause-found
returns-clause-found c = whole_found c.args.today c.args.bytes.now c.loop-rest.line c.loop-rest.message c.loop-rest.rest.now c.loop-rest.requests c.loop-rest.invariant.at (done_is c.is_empty.result c.loop-rest.rest.now c.is_empty.ensures c.loop-rest-test.false)

pub returns-clause-only : goal.returns-clause-only
returns-clause-only c = λ requests h. whole_only c.args.today c.args.bytes.now c.loop-rest.line c.loop-rest.message c.loop-rest.rest.now c.loop-rest.requests requests c.loop-rest.invariant.at (done_is c.is_empty.result c.loop-rest.rest.now c.is_empty.ensures c.loop-rest-test.false) h

pub returns-clause-right : goal.returns-clause-right
returns-clause-right c = right_script c.args.today c.args.bytes.now c.loop-rest.requests (returns-clause-found c)
