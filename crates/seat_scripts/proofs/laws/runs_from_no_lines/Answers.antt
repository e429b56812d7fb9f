use Rattle.seat_scripts.proofs.First.{runs_from_no_lines}
use Rattle.seat_scripts.proofs.laws.runs_from_no_lines.Goals as goal

pub returns : goal.returns
returns c = runs_from_no_lines
