use Rattle.std.proofs.Common.{ℕ, ◌+◌, ◌∙◌, ap}
use Rattle.seat_rules.specs.Inventory.{state_now}
use Rattle.table_questions.specs.LoadRows.{load_names, load_row}
use Rattle.table_questions.proofs.Tables.{row_put}
use Rattle.table_questions.proofs.loads.put_class.Goals as goal

pub returns : goal.returns
returns c =
    row_put load_names _ _ _ c.args.sheet.now c.put_row.new.sheet c.names.ensures
    (c.load_row-row.ensures ∙ ap (λ (n : ℕ). load_row (state_now c.args.core.now) c.args.index c.args.flight.now c.args.leg c.args.dated.now (c.args.k + 1) n c.args.step.now) c.held_from-held.ensures)
    c.in_ok-put_row.ensures
