use Rattle.std.proofs.Common.{◌≡◌, length}
use Rattle.seat_words.specs.Jobs.{named_among}
use Rattle.seat_words.proofs.naming.named_among.Given as goal

abbrev pub invariant-loop-rest : goal.invariant-loop-rest
invariant-loop-rest l = named_among l.word l.rest ≡ named_among l.word l.names

abbrev pub decreases-loop-rest : goal.decreases-loop-rest
decreases-loop-rest l = length l.rest
