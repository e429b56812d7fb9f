use Rattle.std.proofs.Common.{arith}
use Rattle.std.specs.Str.Lines.{lines}
use Rattle.seat_limits.specs.LimitRows.{numbered, rows_in}
use Rattle.seat_limits.proofs.LimitTexts.{rows_again, whole_found, whole_only}
use Rattle.seat_limits.proofs.RowTexts.{at_start, at_next, cut_shorter, at_fault, at_memory, stop_only, not_done, done_is}
use Rattle.seat_limits.proofs.limit_reading.read_limits.Goals as goal

pub loop-rest-init : goal.loop-rest-init
loop-rest-init c = record { at = rw c.new-rows.ensures (at_start numbered c.args.bytes.now); counted = omega arith }

pub returns-in-Err-clause-only : goal.returns-in-Err-clause-only
returns-in-Err-clause-only c = λ rows h.
    stop_only numbered c.args.bytes.now c.loop-rest.line c.loop-rest.rest.now c.cut_line.result.0.now c.cut_line.result.1.now c.loop-rest.rows rows c.in-Err.kind c.loop-rest.invariant.at (not_done c.is_empty.result c.loop-rest.rest.now c.is_empty.ensures c.loop-rest-test.true) c.cut_line.ensures.value c.in-Err.ensures.fault (rows_again (lines c.args.bytes.now) 1 rows h.spelled)

pub returns-in-Err-clause-fault : goal.returns-in-Err-clause-fault
unfolding rows_in
returns-in-Err-clause-fault c = λ other.
    at_fault numbered c.args.bytes.now c.loop-rest.line c.loop-rest.rest.now c.cut_line.result.0.now c.cut_line.result.1.now c.loop-rest.rows c.in-Err.kind c.loop-rest.invariant.at (not_done c.is_empty.result c.loop-rest.rest.now c.is_empty.ensures c.loop-rest-test.true) c.cut_line.ensures.value c.in-Err.ensures.fault other

pub returns-in-Err-clause-memory : goal.returns-in-Err-clause-memory
returns-in-Err-clause-memory c = λ is.
    at_memory numbered c.args.bytes.now c.loop-rest.line c.loop-rest.rest.now c.cut_line.result.0.now c.cut_line.result.1.now c.loop-rest.rows c.in-Err.kind c.loop-rest.invariant.at (not_done c.is_empty.result c.loop-rest.rest.now c.is_empty.ensures c.loop-rest-test.true) c.cut_line.ensures.value c.in-Err.ensures.fault is

pub loop-rest-smaller : goal.loop-rest-smaller
loop-rest-smaller c = cut_shorter c.loop-rest.rest.now c.cut_line.result.0.now c.cut_line.result.1.now c.cut_line.ensures.value (not_done c.is_empty.result c.loop-rest.rest.now c.is_empty.ensures c.loop-rest-test.true)

pub loop-rest-preserved : goal.loop-rest-preserved
loop-rest-preserved c =
    let some = not_done c.is_empty.result c.loop-rest.rest.now c.is_empty.ensures c.loop-rest-test.true in
    record {
      at = at_next numbered c.args.bytes.now c.loop-rest.line c.loop-rest.rest.now c.cut_line.result.0.now c.cut_line.result.1.now c.loop-rest.rows c.take_line.new.rows c.loop-rest.invariant.at some c.cut_line.ensures.value c.in_default.ensures.taken;
      counted = omega (arith, c.loop-rest.invariant.counted, cut_shorter c.loop-rest.rest.now c.cut_line.result.0.now c.cut_line.result.1.now c.cut_line.ensures.value some);
    }

pub returns-clause-found : goal.returns-clause-found
returns-clause-found c = whole_found c.args.bytes.now c.loop-rest.line c.loop-rest.rest.now c.loop-rest.rows c.loop-rest.invariant.at (done_is c.is_empty.result c.loop-rest.rest.now c.is_empty.ensures c.loop-rest-test.false)

pub returns-clause-only : goal.returns-clause-only
returns-clause-only c = λ rows h. whole_only c.args.bytes.now c.loop-rest.line c.loop-rest.rest.now c.loop-rest.rows rows c.loop-rest.invariant.at (done_is c.is_empty.result c.loop-rest.rest.now c.is_empty.ensures c.loop-rest-test.false) h
