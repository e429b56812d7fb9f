-- The lines so far are written.
use Rattle.std.proofs.Common.{take}
use Rattle.seat_desk.specs.FlightsDesk.{IsPut}
use Rattle.carry_reports.specs.Lines.{IsFatedLine}
use Rattle.carry_reports.proofs.line.put_lines.Given as goal

abbrev pub invariant-loop-i : goal.invariant-loop-i
invariant-loop-i l = IsPut (λ n. IsFatedLine l.counts l.olds l.news) 0 (take l.i l.all) l.initial.text.items l.text.items
