use Rattle.desk_pipes.proofs.Pieces.{pieces_do_not_matter}
use Rattle.desk_pipes.proofs.laws.pieces_do_not_matter.Goals as goal

pub returns : goal.returns
returns c = pieces_do_not_matter
