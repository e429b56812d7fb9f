use Rattle.std.proofs.Common.{◌≡◌, length}
use Rattle.clap.specs.Walk.{texts}
use Rattle.seat_words.specs.SessionWords.{highest_after}
use Rattle.seat_words.proofs.sessions.highest.Given as goal

abbrev pub invariant-loop-rest : goal.invariant-loop-rest
invariant-loop-rest l = highest_after l.most (texts l.rest) ≡ highest_after 0 (texts l.words)

abbrev pub decreases-loop-rest : goal.decreases-loop-rest
decreases-loop-rest l = length l.rest
