use Rattle.std.proofs.Common.{◌≡◌, length}
use Rattle.std.proofs.Common.{◌++◌}
use Rattle.seat_season.specs.Line.{texts}
use Rattle.seat_season.specs.Words.{words_texts}
use Rattle.seat_season.proofs.words.put_all.Given as goal

abbrev pub invariant-loop-rest : goal.invariant-loop-rest
invariant-loop-rest l = words_texts l.words ++ texts l.rest ≡ words_texts l.fn.words ++ texts l.more

abbrev pub decreases-loop-rest : goal.decreases-loop-rest
decreases-loop-rest l = length l.rest
