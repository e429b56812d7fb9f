use Rattle.std.proofs.Common.{append_assoc}
use Rattle.seat_seal.specs.Text.{script_text}
use Rattle.seat_seal.proofs.spelling.put_script.Goals as goal

pub returns-clause-text : goal.returns-clause-text
unfolding script_text
returns-clause-text c = rw (c.put_imprint_line.ensures.text, c.put_number.ensures.text, c.put.ensures.text) (simp append_assoc)
