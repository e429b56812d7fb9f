-- The lines so far are written.
use Rattle.std.proofs.Common.{take}
use Rattle.seat_desk.specs.FlightsDesk.{IsPut}
use Rattle.season_changes.specs.Lines.{IsChangePart}
use Rattle.season_changes.proofs.line.put_changes.Given as goal

abbrev pub invariant-loop-i : goal.invariant-loop-i
invariant-loop-i l = IsPut (λ n. IsChangePart l.has_journal) 0 (take l.i l.all) l.initial.text.items l.text.items
