use Rattle.ssim_records.proofs.RightLaws.{is_right}
use Rattle.ssim_records.proofs.SetLaws.{is_found, is_reads}
use Rattle.ssim_records.proofs.SetReaches.{is_only, is_fault, is_want}
use Rattle.ssim_records.proofs.set_reading.read_set.Goals as goal

pub returns-clause-found : goal.returns-clause-found
returns-clause-found c = is_found c.args.most c.args.bytes.now c.read_records.result c.read_records.ensures.found

pub returns-clause-only : goal.returns-clause-only
returns-clause-only c = λ set h. is_only c.args.most c.args.bytes.now c.read_records.result set c.read_records.ensures.found c.read_records.ensures.refused (is_reads c.args.most c.args.bytes.now set h)

pub returns-clause-fault : goal.returns-clause-fault
returns-clause-fault c = is_fault c.args.most c.args.bytes.now c.read_records.result c.read_records.ensures.refused

pub returns-clause-memory : goal.returns-clause-memory
returns-clause-memory c = is_want c.args.most c.args.bytes.now c.read_records.result c.read_records.ensures.refused

pub returns-clause-right : goal.returns-clause-right
returns-clause-right c = is_right c.args.most c.args.bytes.now c.read_records.result (is_found c.args.most c.args.bytes.now c.read_records.result c.read_records.ensures.found)
