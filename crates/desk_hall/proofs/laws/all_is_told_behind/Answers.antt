use Rattle.desk_hall.proofs.Pieces.{all_is_told_behind}
use Rattle.desk_hall.proofs.laws.all_is_told_behind.Goals as goal

pub returns : goal.returns
returns c = all_is_told_behind
