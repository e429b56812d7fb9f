use Rattle.reply_tables.proofs.Whole.{lines_have_rows}
use Rattle.reply_tables.proofs.laws.lines_have_rows.Goals as goal

pub returns : goal.returns
returns c = lines_have_rows
