use Rattle.std.proofs.Common.{append_assoc}
use Rattle.seat_seal.specs.Text.{era_lines}
use Rattle.seat_seal.proofs.spelling.put_era_lines.Goals as goal

pub returns-clause-text : goal.returns-clause-text
unfolding era_lines
returns-clause-text c = rw (c.put_carried.ensures.text, c.put_today.ensures.text, c.put_number_line.ensures.text) (simp append_assoc)
