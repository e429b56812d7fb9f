use Rattle.script_refusals.proofs.Rows.{rows_are_a_list}
use Rattle.script_refusals.proofs.laws.rows_are_a_list.Goals as goal

pub returns : goal.returns
returns c = rows_are_a_list
