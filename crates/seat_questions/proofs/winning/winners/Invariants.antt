-- The rows of the flights so far are marked.
use Rattle.std.proofs.Common.{take}
use Rattle.seat_questions.proofs.Marking.{AreMarked}
use Rattle.seat_questions.proofs.winning.winners.Given as goal

abbrev pub invariant-loop-i : goal.invariant-loop-i
invariant-loop-i l = AreMarked l.rows (take l.i l.flights) l.marks.items
