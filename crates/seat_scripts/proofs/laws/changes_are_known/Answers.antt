use Rattle.seat_scripts.proofs.KnownAgain.{changes_known}
use Rattle.seat_scripts.proofs.laws.changes_are_known.Goals as goal

pub returns : goal.returns
returns c = changes_known
