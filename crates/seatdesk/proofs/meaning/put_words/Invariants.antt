-- The words so far, and those of the parts that are left, are all words.
use Rattle.std.proofs.Common.{◌≡◌, ◌++◌, map, drop}
use Rattle.seatdesk.specs.Words.{filled, words_of}
use Rattle.seatdesk.proofs.meaning.put_words.Given as goal

abbrev pub invariant-loop-part : goal.invariant-loop-part
invariant-loop-part l = map (λ word. word.now) l.fn.words.items ++ words_of l.fn.text
    ≡ map (λ word. word.now) l.words.items ++ filled (drop l.part-index (map (λ part. part.now) l.part-items))
