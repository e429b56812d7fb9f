use Rattle.desk_telling.proofs.Owning.{own_is_told}
use Rattle.desk_telling.proofs.laws.own_is_told.Goals as goal

pub returns : goal.returns
returns c = own_is_told
