use Rattle.desk_hall.proofs.Shut.{closings_close_all}
use Rattle.desk_hall.proofs.laws.closings_close_all.Goals as goal

pub returns : goal.returns
returns c = closings_close_all
