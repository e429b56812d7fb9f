use Rattle.std.proofs.Common.{ℕ, subst, sym, zero-add}
use Rattle.seat_nesting.specs.Nesting.{ladder_at}
use Rattle.seat_rules.specs.Inventory.{state_now}
use Rattle.seat_tables.specs.Sheets.{ArePut}
use Rattle.seat_tables.proofs.Putting.{put_more, put_none}
use Rattle.table_questions.specs.RoomRows.{class_rooms, room_names}
use Rattle.table_questions.proofs.Tables.{own_put}
use Rattle.table_questions.proofs.rooms.put_classes.Goals as goal

pub loop-k-init : goal.loop-k-init
loop-k-init c = put_none room_names c.args.sheet.now c.requires.ready

pub loop-k-preserved : goal.loop-k-preserved
loop-k-preserved c =
    let rows = class_rooms (state_now c.args.core.now) c.args.flight.now c.args.place c.args.run.now in
    put_more room_names rows 0 c.loop-k.k c.steps-steps.result.now c.index-steps-k.result c.args.sheet.now c.loop-k.sheet c.put_class.new.sheet
    c.loop-k.invariant c.loop-k-test.true c.index-steps-k.is
    (subst (λ (n : ℕ). ArePut room_names (rows n c.index-steps-k.result) c.loop-k.sheet c.put_class.new.sheet) (sym (zero-add c.loop-k.k)) c.in_ok-put_class.ensures)

pub returns : goal.returns
returns c =
    own_put room_names (class_rooms (state_now c.args.core.now) c.args.flight.now c.args.place c.args.run.now) c.loop-k.k c.steps-steps.result.now (ladder_at (state_now c.args.core.now).grid c.args.place.flight c.args.place.from) c.args.sheet.now c.loop-k.sheet
    c.loop-k.invariant c.steps-steps.ensures.value c.loop-k-test.false
