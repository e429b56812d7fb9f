use Rattle.desk_answers.proofs.Behind.{calls_are_behind}
use Rattle.desk_answers.proofs.laws.calls_are_behind.Goals as goal

pub returns : goal.returns
returns c = calls_are_behind
