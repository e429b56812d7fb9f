use Rattle.seat_scripts.proofs.Accepted.{runs_are_audited_against}
use Rattle.seat_scripts.proofs.laws.runs_are_audited_against.Goals as goal

pub returns : goal.returns
returns c = runs_are_audited_against
