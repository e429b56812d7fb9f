use Rattle.carry_tables.proofs.Rowing.{each_has_a_row}
use Rattle.carry_tables.proofs.laws.each_has_a_row.Goals as goal

pub returns : goal.returns
returns c = each_has_a_row
