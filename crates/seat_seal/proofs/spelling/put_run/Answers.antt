use Rattle.std.proofs.Common.{append_assoc}
use Rattle.seat_seal.specs.Text.{run_text}
use Rattle.seat_seal.proofs.spelling.put_run.Goals as goal

pub returns-clause-text : goal.returns-clause-text
unfolding run_text
returns-clause-text c = rw (c.put_changes.ensures.text, c.put_scripts.ensures.text, c.as_slice.ensures.value, c.put_run_line.ensures.text) (simp append_assoc)
