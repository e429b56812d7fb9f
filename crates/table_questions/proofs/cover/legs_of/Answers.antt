use Rattle.table_questions.proofs.Placing.{legs_found}
use Rattle.table_questions.proofs.cover.legs_of.Goals as goal

pub returns : goal.returns
returns c =
    legs_found c.args.coverage.now c.args._flights.now c.args._rows.now c.args._i c.args.row.now c.legs_of.result c.requires.right c.requires.here
    c.legs_of.ensures
