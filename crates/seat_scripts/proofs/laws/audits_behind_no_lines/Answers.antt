use Rattle.seat_scripts.proofs.Unasked.{audits_behind_no_lines}
use Rattle.seat_scripts.proofs.laws.audits_behind_no_lines.Goals as goal

pub returns : goal.returns
returns c = audits_behind_no_lines
