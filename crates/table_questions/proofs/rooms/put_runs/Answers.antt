use Rattle.std.proofs.Common.{◌+◌, ◌-◌, length, take, drop, subst}
use Rattle.ssim_flights.specs.declared.flight.DatedLeg.{DatedLeg}
use Rattle.seat_rules.specs.Inventory.{state_now}
use Rattle.seat_questions.specs.Rooms.{place_of}
use Rattle.seat_tables.specs.Sheets.{ArePut}
use Rattle.seat_tables.proofs.Putting.{put_more, put_none}
use Rattle.table_questions.specs.RoomRows.{last_rooms, place_rooms, room_names}
use Rattle.table_questions.proofs.rooms.put_runs.Goals as goal

pub loop-k-init : goal.loop-k-init
loop-k-init c = put_none room_names c.args.sheet.now c.requires.ready

pub loop-k-preserved : goal.loop-k-preserved
loop-k-preserved c =
    let state = state_now c.args.core.now in
    put_more room_names (last_rooms c.args.served.now c.args.asked.now state c.args.start.flight c.args.flight.now c.args.start.from c.args.first.now) c.args.start.from c.loop-k.k
    (take (length c.as_slice-legs.result.now - c.from.result) (drop c.from.result c.as_slice-legs.result.now)) c.index-rest-k.result c.args.sheet.now c.loop-k.sheet
    c.put_run.new.sheet c.loop-k.invariant c.loop-k-test.true c.index-rest-k.is
    (subst (λ (r : DatedLeg). ArePut room_names (place_rooms c.args.served.now c.args.asked.now state c.args.flight.now (place_of c.args.start.flight c.args.start.from (c.args.start.from + c.loop-k.k)) r) c.loop-k.sheet c.put_run.new.sheet) c.run_of-run.ensures c.in_ok-put_run.ensures)
