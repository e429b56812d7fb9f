use Rattle.std.proofs.Common.{◌≡◌, length}
use Rattle.seat_season.specs.Line.{texts}
use Rattle.seat_season.specs.Options.{is_one_of}
use Rattle.seat_season.proofs.awaits.is_one_of.Given as goal

abbrev pub invariant-loop-rest : goal.invariant-loop-rest
invariant-loop-rest l = is_one_of l.word (texts l.rest) ≡ is_one_of l.word (texts l.words)

abbrev pub decreases-loop-rest : goal.decreases-loop-rest
decreases-loop-rest l = length l.rest
