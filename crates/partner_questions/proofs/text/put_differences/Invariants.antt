-- The lines of the differences so far are written.
use Rattle.std.proofs.Common.{take}
use Rattle.seat_desk.specs.FlightsDesk.{IsPut}
use Rattle.partner_questions.specs.DifferenceText.{IsDifferenceLine}
use Rattle.partner_questions.proofs.text.put_differences.Given as goal

abbrev pub invariant-loop-i : goal.invariant-loop-i
invariant-loop-i l = IsPut (λ n. IsDifferenceLine) 0 (take l.i l.all) l.initial.text.items l.text.items
