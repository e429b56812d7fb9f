use Rattle.script_refusals.proofs.Faults.{none}
use Rattle.script_refusals.proofs.laws.cleaned_is_right.Goals as goal

pub returns : goal.returns
returns c = none
