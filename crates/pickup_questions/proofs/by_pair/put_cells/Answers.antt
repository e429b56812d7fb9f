use Rattle.pickup_questions.specs.PairRows.{pair_names}
use Rattle.table_questions.proofs.Tables.{row_put}
use Rattle.pickup_questions.proofs.by_pair.put_cells.Goals as goal

pub returns : goal.returns
returns c = row_put pair_names _ _ _ c.args.sheet.now c.put_row.new.sheet c.names.ensures c.pair_cells-row.ensures c.in_ok-put_row.ensures
