use Rattle.script_refusals.proofs.Faults.{first_refusal}
use Rattle.script_refusals.proofs.laws.first_refusal_is_the_fault.Goals as goal

pub returns : goal.returns
returns c = first_refusal
