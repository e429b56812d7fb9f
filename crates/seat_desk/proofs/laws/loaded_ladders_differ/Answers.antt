use Rattle.seat_desk.proofs.Grounds.{loaded_ladders_differ}
use Rattle.seat_desk.proofs.laws.loaded_ladders_differ.Goals as goal

pub returns : goal.returns
returns c = loaded_ladders_differ
