use Rattle.std.proofs.Common.{append_assoc}
use Rattle.seat_seal.specs.Text.{imprint_text}
use Rattle.seat_seal.proofs.spelling.put_imprint_line.Goals as goal

pub returns-clause-text : goal.returns-clause-text
unfolding imprint_text
returns-clause-text c = rw (c.put-3.ensures.text, c.put_count.ensures.text, c.put-2.ensures.text, c.put_digest.ensures.text, c.put.ensures.text) (simp append_assoc)
