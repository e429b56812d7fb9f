use Rattle.std.proofs.Common.{◌≡◌, ◌+◌, ◌++◌, map, arith, subst}
use Rattle.ssim_flights.specs.declared.flight.DatedLeg.{DatedLeg}
use Rattle.seat_rules.specs.Inventory.{state_now}
use Rattle.seat_questions.specs.Rooms.{place_of}
use Rattle.seat_availability.specs.Messages.{message_of, segments_of_run, segments_to}
use Rattle.seat_availability.proofs.Adding.{part_more}
use Rattle.seat_availability.proofs.segments.add_runs.Goals as goal

pub loop-k-preserved : goal.loop-k-preserved
loop-k-preserved c =
    let tell = message_of c.args.asked.now (state_now c.args.core.now) in
    let place = place_of c.args.start.flight c.args.start.from (c.args.start.from + c.loop-k.k) in
    let next : c.args.start.from + (c.loop-k.k + 1) ≡ c.args.start.from + c.loop-k.k + 1 = omega arith in
    part_more tell (segments_to c.args.served.now c.args.asked.now c.args.core.now.grid c.args.start.flight c.args.flight.now c.args.start.from c.args.first.now)
    (c.args.start.from + c.loop-k.k) _ c.loop-k.k _ c.index-rest-k.result c.loop-k.all.items c.add_run.new.all.items _ c.loop-k.invariant c.loop-k-test.true c.index-rest-k.is
    (subst (λ (r : DatedLeg). c.add_run.new.all.items ≡ c.loop-k.all.items ++ map tell (segments_of_run c.args.served.now c.args.asked.now c.args.core.now.grid c.args.flight.now place r)) c.run_of-run.ensures c.in_ok-add_run.ensures)
    next
