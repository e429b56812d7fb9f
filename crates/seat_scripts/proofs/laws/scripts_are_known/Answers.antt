use Rattle.seat_scripts.proofs.KnownAgain.{scripts_known}
use Rattle.seat_scripts.proofs.laws.scripts_are_known.Goals as goal

pub returns : goal.returns
returns c = scripts_known
