-- The bookings that the lines so far made are picked.
use Rattle.std.proofs.Common.{◌≡◌}
use Rattle.seat_rules.specs.Inventory.{state_now}
use Rattle.seat_rules.specs.Journal.{IsLegal}
use Rattle.seat_lists.specs.Picking.{chosen_up_to, is_asked}
use Rattle.seat_lists.proofs.picking.picked.Given as goal

abbrev pub invariant-loop-i : goal.invariant-loop-i
invariant-loop-i l = record {
  legal : IsLegal l.core.grid l.core.journal;
  chosen : l.all.items ≡ chosen_up_to (is_asked l.flights l.wanted l.waiting) l.i (state_now l.core).bookings;
}
