-- The lines of the messages so far are written.
use Rattle.std.proofs.Common.{take}
use Rattle.seat_desk.specs.FlightsDesk.{IsPut}
use Rattle.seat_availability.specs.Lines.{IsMessageLine}
use Rattle.seat_availability.proofs.lines.put_messages.Given as goal

abbrev pub invariant-loop-i : goal.invariant-loop-i
invariant-loop-i l = IsPut (λ n. IsMessageLine) 0 (take l.i l.messages) l.initial.text.items l.text.items
