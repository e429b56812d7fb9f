use Rattle.std.specs.Prelude.{codes}
use Rattle.hex.specs.Hex.{encode_lower}
use Rattle.seat_seal.specs.Text.{line, sealed_text}
use Rattle.seat_seal.proofs.Joined.{eight}
use Rattle.seat_seal.proofs.spelling.put_sealed.Goals as goal

pub returns-clause-text : goal.returns-clause-text
unfolding sealed_text
returns-clause-text c =
    eight c.args.text.now.items (line (codes "set ") (encode_lower c.args.sealed.now.set)) _ _ _ _ _ _ _ _ _ _ _ _ _ _ _ c.put_digest_line.ensures.text c.put_digest_line-2.ensures.text c.put_date_line.ensures.text c.put_number_line.ensures.text c.put_era.ensures.text c.put_journal_line.ensures.text (rw c.as_slice.ensures.value at c.put_runs.ensures.text) c.put.ensures.text
