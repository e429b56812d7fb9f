use Rattle.std.proofs.Common.{ap, nat_lt}
use Rattle.taken_journals.proofs.owners.is_owned.Goals as goal

pub returns : goal.returns
returns c = ap (nat_lt 0) c.owner_of.ensures
