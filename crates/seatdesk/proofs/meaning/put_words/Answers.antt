use Rattle.std.proofs.Common.{map}
use Rattle.seatdesk.proofs.Words.{part_step}
use Rattle.seatdesk.proofs.meaning.put_words.Goals as goal

pub loop-part-preserved : goal.loop-part-preserved
loop-part-preserved c = part_step _ (map (λ word. word.now) c.loop-part.words.items) _ c.deref-part-items.result.now c.loop-part.part-index _ c.loop-part-test.true c.loop-part.invariant c.in_ok-put_part.ensures
