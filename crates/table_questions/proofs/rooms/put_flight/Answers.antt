use Rattle.std.proofs.Common.{ℕ, subst, sym, zero-add}
use Rattle.seat_rules.specs.Inventory.{state_now}
use Rattle.seat_tables.specs.Sheets.{ArePut}
use Rattle.seat_tables.proofs.Putting.{put_more, put_none}
use Rattle.table_questions.specs.RoomRows.{first_rooms, room_names}
use Rattle.table_questions.proofs.Tables.{own_put}
use Rattle.table_questions.proofs.rooms.put_flight.Goals as goal

pub loop-from-init : goal.loop-from-init
loop-from-init c = put_none room_names c.args.sheet.now c.requires.ready

pub loop-from-preserved : goal.loop-from-preserved
loop-from-preserved c =
    let rows = first_rooms c.args.served.now c.args.asked.now (state_now c.args.core.now) c.args.index c.args.flight.now in
    put_more room_names rows 0 c.loop-from.from c.as_slice-legs.result.now c.index-legs-from.result c.args.sheet.now c.loop-from.sheet c.put_runs.new.sheet
    c.loop-from.invariant c.loop-from-test.true c.index-legs-from.is
    (subst (λ (k : ℕ). ArePut room_names (rows k c.index-legs-from.result) c.loop-from.sheet c.put_runs.new.sheet) (sym (zero-add c.loop-from.from)) c.in_ok-put_runs.ensures)

pub returns : goal.returns
returns c =
    own_put room_names (first_rooms c.args.served.now c.args.asked.now (state_now c.args.core.now) c.args.index c.args.flight.now) c.loop-from.from c.as_slice-legs.result.now c.args.flight.now.legs
    c.args.sheet.now c.loop-from.sheet c.loop-from.invariant c.as_slice-legs.ensures c.loop-from-test.false
