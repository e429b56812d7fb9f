use Rattle.script_refusals.proofs.Asking.{stays}
use Rattle.script_refusals.proofs.laws.right_scripts_stay.Goals as goal

pub returns : goal.returns
returns c = stays
