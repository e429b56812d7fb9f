use Rattle.desk_telling.proofs.Owning.{told_stays}
use Rattle.desk_telling.proofs.laws.told_stays.Goals as goal

pub returns : goal.returns
returns c = told_stays
