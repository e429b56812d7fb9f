use Rattle.desk_telling.proofs.Owning.{told_goes_on}
use Rattle.desk_telling.proofs.laws.told_goes_on.Goals as goal

pub returns : goal.returns
returns c = told_goes_on
