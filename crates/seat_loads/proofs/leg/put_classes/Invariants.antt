-- The classes so far are written, and those that are left make the text whole.
use Rattle.std.proofs.Common.{◌≡◌, ◌++◌, drop}
use Rattle.seat_rules.specs.Bookings.{held}
use Rattle.seat_rules.specs.Inventory.{state_now}
use Rattle.seat_loads.specs.Legs.{load_texts}
use Rattle.seat_loads.proofs.leg.put_classes.Given as goal

abbrev pub invariant-loop-i : goal.invariant-loop-i
invariant-loop-i l =
    l.text.items ++ load_texts (held (state_now l.core).bookings l.flight l.leg) (drop l.i l.steps)
    ≡ l.initial.text.items ++ load_texts (held (state_now l.core).bookings l.flight l.leg) l.steps
