use Rattle.seat_seal.proofs.Beginnings.{grown}
use Rattle.seat_seal.proofs.laws.grown_texts_are_known.Goals as goal

pub returns : goal.returns
returns c = grown
