use Rattle.seat_availability.proofs.Sufficing.{changes_suffice}
use Rattle.seat_availability.proofs.laws.changes_suffice.Goals as goal

pub returns : goal.returns
returns c = changes_suffice
