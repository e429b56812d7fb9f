use Rattle.std.proofs.Common.{◌≡◌, length}
use Rattle.std.specs.List.{list_any}
use Rattle.clap.specs.Walk.{texts}
use Rattle.seat_words.specs.SessionWords.{is_of}
use Rattle.seat_words.proofs.sessions.is_repeated.Given as goal

abbrev pub invariant-loop-rest : goal.invariant-loop-rest
invariant-loop-rest l = list_any (is_of l.number) (texts l.rest) ≡ list_any (is_of l.number) (texts l.more)

abbrev pub decreases-loop-rest : goal.decreases-loop-rest
decreases-loop-rest l = length l.rest
