use Rattle.std.proofs.Common.{ℕ, subst, sym, zero-add}
use Rattle.seat_nesting.specs.Nesting.{ladder_at}
use Rattle.seat_rules.specs.Inventory.{state_now}
use Rattle.seat_tables.specs.Sheets.{ArePut}
use Rattle.seat_tables.proofs.Putting.{put_more, put_none}
use Rattle.table_questions.specs.LoadRows.{class_rows, load_names}
use Rattle.table_questions.proofs.Tables.{own_put}
use Rattle.table_questions.proofs.loads.put_classes.Goals as goal

pub loop-k-init : goal.loop-k-init
loop-k-init c = put_none load_names c.args.sheet.now c.requires.ready

pub loop-k-preserved : goal.loop-k-preserved
loop-k-preserved c =
    let rows = class_rows (state_now c.args.core.now) c.args.index c.args.flight.now c.args.leg c.args.dated.now in
    put_more load_names rows 0 c.loop-k.k c.steps-steps.result.now c.index-steps-k.result c.args.sheet.now c.loop-k.sheet c.put_class.new.sheet
    c.loop-k.invariant c.loop-k-test.true c.index-steps-k.is
    (subst (λ (n : ℕ). ArePut load_names (rows n c.index-steps-k.result) c.loop-k.sheet c.put_class.new.sheet) (sym (zero-add c.loop-k.k)) c.in_ok-put_class.ensures)

pub returns : goal.returns
returns c =
    own_put load_names (class_rows (state_now c.args.core.now) c.args.index c.args.flight.now c.args.leg c.args.dated.now) c.loop-k.k c.steps-steps.result.now (ladder_at (state_now c.args.core.now).grid c.args.index c.args.leg) c.args.sheet.now c.loop-k.sheet
    c.loop-k.invariant c.steps-steps.ensures.value c.loop-k-test.false
