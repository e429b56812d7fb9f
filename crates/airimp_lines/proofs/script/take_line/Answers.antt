use Rattle.std.proofs.Common.{inl, inr, option_to_list}
use Rattle.airimp_lines.proofs.Passing.{has_own}
use Rattle.airimp_lines.proofs.script.take_line.Goals as goal

pub returns-in-Err-clause-fault : goal.returns-in-Err-clause-fault
returns-in-Err-clause-fault c = inl c.in-Err.ensures.fault

pub returns-in-Err-add_request-clause-fault : goal.returns-in-Err-add_request-clause-fault
returns-in-Err-add_request-clause-fault c =
    let memory = c.in-Err-add_request.ensures.memory in
    inr (memory.0, has_own c.args.today c.args.message c.in-Ok.read.message c.args.line c.args.text.now c.in-Ok.read.request c.in-Ok.ensures.message c.in-Ok.ensures.asked memory.1)

pub returns-in-Ok-add_request-clause-added : goal.returns-in-Ok-add_request-clause-added
returns-in-Ok-add_request-clause-added c = record { added = option_to_list c.in-Ok.read.request; all = c.in-Ok-add_request.ensures.ok; asked = c.in-Ok.ensures.asked }
