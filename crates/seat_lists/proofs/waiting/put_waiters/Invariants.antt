-- The lines of those so far are written.
use Rattle.std.proofs.Common.{take}
use Rattle.seat_rules.specs.Inventory.{state_now}
use Rattle.seat_desk.specs.FlightsDesk.{IsPut}
use Rattle.seat_lists.specs.Waiting.{IsWaitingLine}
use Rattle.seat_lists.proofs.waiting.put_waiters.Given as goal

abbrev pub invariant-loop-i : goal.invariant-loop-i
invariant-loop-i l = IsPut (λ n. IsWaitingLine l.flights (state_now l.core)) 0 (take l.i l.bookings) l.initial.text.items l.text.items
