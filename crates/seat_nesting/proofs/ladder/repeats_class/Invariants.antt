use Rattle.std.proofs.Common.{◌≡◌, length}
use Rattle.seat_nesting.specs.Nesting.{HasLetters}
use Rattle.seat_nesting.specs.Ladders.{repeats_class}
use Rattle.seat_nesting.proofs.ladder.repeats_class.Given as goal

abbrev pub invariant-loop-rest : goal.invariant-loop-rest
invariant-loop-rest l = record {
  value : repeats_class l.rest ≡ repeats_class l.steps;
  letters : HasLetters l.rest → HasLetters l.steps;
}

abbrev pub decreases-loop-rest : goal.decreases-loop-rest
decreases-loop-rest l = length l.rest
