use Rattle.script_refusals.proofs.Asking.{right_lines}
use Rattle.script_refusals.proofs.laws.right_lines_are_kept.Goals as goal

pub returns : goal.returns
returns c = right_lines
