use Rattle.std.proofs.Common.{append_assoc}
use Rattle.seat_seal.specs.Text.{other_text}
use Rattle.seat_seal.proofs.spelling.put_other.Goals as goal

pub returns-clause-text : goal.returns-clause-text
unfolding other_text
returns-clause-text c = rw (c.put.ensures.text, c.put_imprint_line.ensures.text) (simp append_assoc)
