-- The rows so far have numbers.
use Rattle.seat_questions.specs.PairNumbers.{AreNumbered}
use Rattle.seat_questions.proofs.pair_numbers.PairNumbers.new.Given as goal

abbrev pub invariant-loop-i : goal.invariant-loop-i
invariant-loop-i l = AreNumbered l.last l.rows l.i
