use Rattle.desk_hall.proofs.Pieces.{pieces_stay}
use Rattle.desk_hall.proofs.laws.pieces_stay.Goals as goal

pub returns : goal.returns
returns c = pieces_stay
