-- The lines so far are written.
use Rattle.std.proofs.Common.{take}
use Rattle.seat_desk.specs.FlightsDesk.{IsPut}
use Rattle.limit_changes.specs.Lines.{IsUnnamedLine}
use Rattle.limit_changes.proofs.lines.put_unnamed.Given as goal

abbrev pub invariant-loop-i : goal.invariant-loop-i
invariant-loop-i l = IsPut (λ n. IsUnnamedLine) 0 (take l.i l.shorts) l.initial.text.items l.text.items
