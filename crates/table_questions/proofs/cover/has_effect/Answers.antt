use Rattle.table_questions.proofs.Placing.{marked}
use Rattle.table_questions.proofs.cover.has_effect.Goals as goal

pub returns : goal.returns
returns c =
    marked c.args._rows.now c.args._flights.now c.args.marks.now c.args.i c.args._row.now c.is_marked.result c.requires.marks c.requires.here
    c.is_marked.ensures
