use Rattle.carry_limits.proofs.Carrying as carrying
use Rattle.carry_limits.proofs.laws.carry_is_same.Goals as goal

pub returns : goal.returns
returns c = carrying.carry_is_same
