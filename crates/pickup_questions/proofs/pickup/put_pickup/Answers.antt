use Rattle.pickup_questions.specs.PickupRows.{pickup_names}
use Rattle.table_questions.proofs.Tables.{row_put}
use Rattle.pickup_questions.proofs.pickup.put_pickup.Goals as goal

pub returns : goal.returns
returns c = row_put pickup_names _ _ _ c.args.sheet.now c.put_row.new.sheet c.names.ensures c.pickup_row-row.ensures c.in_ok-put_row.ensures
