use Rattle.seat_scripts.proofs.Audits.{runs_are_audited}
use Rattle.seat_scripts.proofs.laws.runs_are_audited.Goals as goal

pub returns : goal.returns
returns c = runs_are_audited
