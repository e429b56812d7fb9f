use Rattle.std.proofs.Common.{◌+◌, arith, refl}
use Rattle.seat_availability.proofs.Reading.{none_left, reading_ends, reading_goes_on, reading_starts, reading_stops, some_left}
use Rattle.seat_availability.proofs.partner.read_thresholds.Goals as goal

pub loop-rest-init : goal.loop-rest-init
loop-rest-init c = record { read = rw c.new-rows.ensures (reading_starts c.args.bytes.now); counted = omega arith }

pub returns-in-Err-clause-fault : goal.returns-in-Err-clause-fault
returns-in-Err-clause-fault c = λ other.
    reading_stops (c.loop-rest.line + 1) c.loop-rest.rows c.in-Err.kind c.loop-rest.rest.now c.cut_line.result.0.now c.cut_line.result.1.now _ c.loop-rest.invariant.read
    (c.cut_line.ensures.lines (some_left c.is_empty.result c.loop-rest.rest.now c.is_empty.ensures c.loop-rest-test.true)) (c.in-Err.ensures.fault other)

pub loop-rest-smaller : goal.loop-rest-smaller
loop-rest-smaller c = c.cut_line.ensures.shorter (some_left c.is_empty.result c.loop-rest.rest.now c.is_empty.ensures c.loop-rest-test.true)

pub loop-rest-preserved : goal.loop-rest-preserved
loop-rest-preserved c =
    let some = some_left c.is_empty.result c.loop-rest.rest.now c.is_empty.ensures c.loop-rest-test.true in
    record {
      read = reading_goes_on (c.loop-rest.line + 1) _ c.loop-rest.rows c.take_line.new.rows c.loop-rest.rest.now c.cut_line.result.0.now c.cut_line.result.1.now _ c.loop-rest.invariant.read
          (c.cut_line.ensures.lines some) c.in_default.ensures.taken refl;
      counted = omega (arith, c.loop-rest.invariant.counted, c.cut_line.ensures.shorter some);
    }

pub returns-clause-ok : goal.returns-clause-ok
returns-clause-ok c =
    reading_ends (c.loop-rest.line + 1) c.loop-rest.rows c.loop-rest.rest.now _ c.loop-rest.invariant.read (none_left c.is_empty.result c.loop-rest.rest.now c.is_empty.ensures c.loop-rest-test.false)
