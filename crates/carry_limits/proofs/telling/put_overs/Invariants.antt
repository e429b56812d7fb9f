-- The lines so far are written.
use Rattle.std.proofs.Common.{take}
use Rattle.seat_desk.specs.FlightsDesk.{IsPut}
use Rattle.carry_limits.specs.Overs.{IsOverLine}
use Rattle.carry_limits.proofs.telling.put_overs.Given as goal

abbrev pub invariant-loop-i : goal.invariant-loop-i
invariant-loop-i l = IsPut (λ n. IsOverLine) 0 (take l.i l.overs) l.initial.text.items l.text.items
