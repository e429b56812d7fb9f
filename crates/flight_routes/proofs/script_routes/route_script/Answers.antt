use Rattle.std.proofs.Common.{arith}
use Rattle.airimp_lines.proofs.Progress.{cut_stop, done_is, not_done}
use Rattle.flight_routes.specs.ScriptRoutes.{message_of}
use Rattle.flight_routes.proofs.Routing.{all_right, all_written, at_fault, at_memory, at_start, cut_next}
use Rattle.flight_routes.proofs.script_routes.route_script.Goals as goal

pub loop-rest-init : goal.loop-rest-init
loop-rest-init c = record { routed = at_start c.args.shards c.args.session c.args.bytes.now c.new-text.result.items c.new-text.ensures.items; counted = omega arith }

pub loop-rest-smaller : goal.loop-rest-smaller
loop-rest-smaller c = c.cut_line.ensures.shorter (not_done c.is_empty.result c.loop-rest.rest.now c.is_empty.ensures c.loop-rest-test.true)

pub loop-rest-preserved : goal.loop-rest-preserved
loop-rest-preserved c =
    let some = not_done c.is_empty.result c.loop-rest.rest.now c.is_empty.ensures c.loop-rest-test.true in
    record {
      routed = cut_next c.args.shards c.args.session c.args.bytes.now c.loop-rest.line c.loop-rest.begun c.in-Ok.next c.loop-rest.rest.now c.cut_line.result.0.now c.cut_line.result.1.now c.loop-rest.text.items c.take_line.new.text.items c.cut_line.ensures.value c.loop-rest.invariant.routed some c.in-Ok.ensures.taken c.in-Ok.ensures.next c.in-Ok.ensures.added;
      counted = omega (arith, c.loop-rest.invariant.counted, c.cut_line.ensures.shorter some);
    }

pub returns-in-Err-clause-fault : goal.returns-in-Err-clause-fault
returns-in-Err-clause-fault c = λ other.
    at_fault c.args.shards c.args.session c.args.bytes.now c.loop-rest.line c.loop-rest.begun c.loop-rest.rest.now c.loop-rest.text.items c.in-Err.kind c.loop-rest.invariant.routed
    (cut_stop (message_of c.loop-rest.begun) c.loop-rest.rest.now c.cut_line.result.0.now c.cut_line.result.1.now c.in-Err.kind c.cut_line.ensures.value c.in-Err.ensures.fault) other

pub returns-in-Err-clause-memory : goal.returns-in-Err-clause-memory
returns-in-Err-clause-memory c = λ is.
    at_memory c.args.shards c.args.session c.args.bytes.now c.loop-rest.line c.loop-rest.begun c.loop-rest.rest.now c.loop-rest.text.items c.in-Err.kind c.loop-rest.invariant.routed
    (cut_stop (message_of c.loop-rest.begun) c.loop-rest.rest.now c.cut_line.result.0.now c.cut_line.result.1.now c.in-Err.kind c.cut_line.ensures.value c.in-Err.ensures.fault) is

pub returns-clause-routes : goal.returns-clause-routes
returns-clause-routes c = all_written c.args.shards c.args.session c.args.bytes.now c.loop-rest.line c.loop-rest.begun c.loop-rest.rest.now c.loop-rest.text.items c.loop-rest.invariant.routed (done_is c.is_empty.result c.loop-rest.rest.now c.is_empty.ensures c.loop-rest-test.false)

pub returns-clause-right : goal.returns-clause-right
returns-clause-right c = all_right c.args.shards c.args.session c.args.bytes.now c.loop-rest.line c.loop-rest.begun c.loop-rest.rest.now c.loop-rest.text.items c.loop-rest.invariant.routed (done_is c.is_empty.result c.loop-rest.rest.now c.is_empty.ensures c.loop-rest-test.false)
