use Rattle.airimp_lines.proofs.Uniqueness.{one_segment, one_script}
use Rattle.airimp_lines.proofs.laws.spellings_are_unique.Goals as goal

pub returns-clause-segment : goal.returns-clause-segment
returns-clause-segment c = one_segment

pub returns-clause-script : goal.returns-clause-script
returns-clause-script c = one_script
