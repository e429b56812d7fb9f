use Rattle.table_questions.specs.SumRows.{leg_names}
use Rattle.table_questions.proofs.Tables.{row_put}
use Rattle.table_questions.proofs.by_leg.put_own.Goals as goal

pub returns : goal.returns
returns c = row_put leg_names _ _ _ c.args.sheet.now c.put_row.new.sheet c.names.ensures c.leg_row-row.ensures c.in_ok-put_row.ensures
