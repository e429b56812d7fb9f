use Rattle.std.proofs.Common.{map}
use Rattle.seatdesk.proofs.Words.{piece_step}
use Rattle.seatdesk.proofs.meaning.words_in.Goals as goal

pub loop-piece-preserved : goal.loop-piece-preserved
loop-piece-preserved c = piece_step _ (map (λ word. word.now) c.loop-piece.words.items) _ c.args.behind.now c.loop-piece.piece-index _ c.loop-piece-test.true c.loop-piece.invariant c.in_ok-put_words-2.ensures
