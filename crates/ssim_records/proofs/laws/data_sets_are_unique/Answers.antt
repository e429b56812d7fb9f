use Rattle.ssim_records.proofs.SetLaws.{one_cut, one_data_set}
use Rattle.ssim_records.proofs.SetReaches.{one_first_fault}
use Rattle.ssim_records.proofs.laws.data_sets_are_unique.Goals as goal

pub returns-clause-cut : goal.returns-clause-cut
returns-clause-cut c = one_cut

pub returns-clause-set : goal.returns-clause-set
returns-clause-set c = one_data_set

pub returns-clause-fault : goal.returns-clause-fault
returns-clause-fault c = one_first_fault
