use Rattle.desk_hall.proofs.Pieces.{pieces_are_the_whole}
use Rattle.desk_hall.proofs.laws.pieces_are_the_whole.Goals as goal

pub returns : goal.returns
returns c = pieces_are_the_whole
