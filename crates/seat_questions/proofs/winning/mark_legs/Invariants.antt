-- The rows of the legs so far are marked.
use Rattle.std.proofs.Common.{take}
use Rattle.seat_questions.specs.Winning.{Marks}
use Rattle.seat_questions.proofs.Marking.{leg_test}
use Rattle.seat_questions.proofs.winning.mark_legs.Given as goal

abbrev pub invariant-loop-leg : goal.invariant-loop-leg
invariant-loop-leg l = Marks (leg_test l.rows l.flight (take l.leg-index l.legs)) l.initial.marks.items l.marks.items
