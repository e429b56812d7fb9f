use Rattle.std.proofs.Common.{append-nil, sym, ◌++◌}
use Rattle.seat_seal.specs.Eras.{is_first}
use Rattle.seat_seal.specs.Text.{entries_text, head_text, sealed_text}
use Rattle.seat_seal.proofs.spelling.put_one.Goals as goal

pub returns-clause-text : goal.returns-clause-text
unfolding entries_text
returns-clause-text c = rw (c.put_sealed.ensures.text, c.put_head.ensures.text, c.is_first.ensures)
    (sym (append-nil (head_text (is_first c.args.entry.now.era) ++ sealed_text c.args.entry.now)))
