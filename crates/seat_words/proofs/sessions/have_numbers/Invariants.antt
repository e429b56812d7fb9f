use Rattle.std.proofs.Common.{◌≡◌, length}
use Rattle.clap.specs.Walk.{texts}
use Rattle.seat_words.specs.SessionWords.{have_numbers}
use Rattle.seat_words.proofs.sessions.have_numbers.Given as goal

abbrev pub invariant-loop-rest : goal.invariant-loop-rest
invariant-loop-rest l = have_numbers (texts l.rest) ≡ have_numbers (texts l.words)

abbrev pub decreases-loop-rest : goal.decreases-loop-rest
decreases-loop-rest l = length l.rest
