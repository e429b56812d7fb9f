use Rattle.table_questions.proofs.Placing.{row_found}
use Rattle.table_questions.proofs.cover.has_row.Goals as goal

pub returns : goal.returns
returns c =
    row_found c.args.coverage.now c.args._flights.now c.args._rows.now c.args.flight.now c.args.leg.now c.has_row.result c.requires.right
    c.has_row.ensures
