use Rattle.std.proofs.Common.{append_assoc}
use Rattle.seat_seal.specs.Text.{entries_text}
use Rattle.seat_seal.proofs.spelling.put_entries.Goals as goal

pub returns-clause-text : goal.returns-clause-text
unfolding entries_text
returns-clause-text c = rw (c.put_second.ensures.text, c.put_entry.ensures.text, c.put_head.ensures.text, c.has_no_era.ensures) (simp append_assoc)
