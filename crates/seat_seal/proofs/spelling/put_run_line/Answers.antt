use Rattle.std.proofs.Common.{append_assoc}
use Rattle.seat_seal.specs.Text.{run_line}
use Rattle.seat_seal.proofs.spelling.put_run_line.Goals as goal

pub returns-clause-text : goal.returns-clause-text
unfolding run_line
returns-clause-text c = rw (c.put_date_line.ensures.text, c.put_number.ensures.text, c.put.ensures.text) (simp append_assoc)
