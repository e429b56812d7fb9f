use Rattle.std.proofs.Common.{◌≡◌, length}
use Rattle.clap.specs.Walk.{texts}
use Rattle.seat_words.specs.SessionWords.{numbered_file}
use Rattle.seat_words.proofs.sessions.numbered_file.Given as goal

abbrev pub invariant-loop-rest : goal.invariant-loop-rest
invariant-loop-rest l = numbered_file l.session (texts l.rest) ≡ numbered_file l.session (texts l.words)

abbrev pub decreases-loop-rest : goal.decreases-loop-rest
decreases-loop-rest l = length l.rest
