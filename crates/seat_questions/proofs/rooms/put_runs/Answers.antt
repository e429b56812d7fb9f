use Rattle.std.proofs.Common.{◌+◌, ◌-◌, length, take, drop, subst}
use Rattle.ssim_flights.specs.declared.flight.DatedLeg.{DatedLeg}
use Rattle.seat_rules.specs.Inventory.{state_now}
use Rattle.seat_desk.proofs.Texts.{put_more}
use Rattle.seat_questions.specs.Rooms.{IsLastPart, IsRunText, place_of}
use Rattle.seat_questions.proofs.rooms.put_runs.Goals as goal

pub loop-k-preserved : goal.loop-k-preserved
loop-k-preserved c =
    let run = c.in_ok-put_run.ensures in
    let state = state_now c.args.core.now in
    put_more (IsLastPart c.args.served.now c.args.asked.now state c.args.start.flight c.args.flight.now c.args.start.from c.args.first.now) c.args.start.from c.loop-k.k
    (take (length c.as_slice-legs.result.now - c.from.result) (drop c.from.result c.as_slice-legs.result.now)) c.index-rest-k.result c.args.text.now.items c.loop-k.text.items
    c.put_run.new.text.items run.part c.loop-k.invariant c.loop-k-test.true c.index-rest-k.is
    (subst (λ (r : DatedLeg). IsRunText c.args.served.now c.args.asked.now state c.args.flight.now (place_of c.args.start.flight c.args.start.from (c.args.start.from + c.loop-k.k)) r run.part) c.run_of-run.ensures run.is_part) run.written
