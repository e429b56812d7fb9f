use Rattle.seat_seal.proofs.EntryLaws.{one_seal}
use Rattle.seat_seal.proofs.laws.seals_are_unique.Goals as goal

pub returns : goal.returns
returns c = one_seal
