-- The words so far, and those of the pieces that are left, are the line.
use Rattle.std.proofs.Common.{◌≡◌, ◌∷◌, ◌++◌, map, drop}
use Rattle.seatdesk.specs.Words.{line_of}
use Rattle.seatdesk.proofs.meaning.words_in.Given as goal

abbrev pub invariant-loop-piece : goal.invariant-loop-piece
invariant-loop-piece l = line_of (l.fn.code ∷ map (λ word. word.now) l.fn.behind)
    ≡ map (λ word. word.now) l.words.items ++ line_of (drop l.piece-index (map (λ word. word.now) l.fn.behind))
