-- The classes so far are added.
use Rattle.std.proofs.Common.{◌≡◌, ◌+◌, ◌-◌, ◌++◌, take, drop}
use Rattle.seat_rules.specs.Inventory.{state_now}
use Rattle.seat_rules.specs.Journal.{replay}
use Rattle.seat_pickup.specs.Pickups.{of_class, of_classes, of_letters}
use Rattle.seat_pickup.proofs.classes.add_classes.Given as goal

abbrev pub invariant-loop-i : goal.invariant-loop-i
invariant-loop-i l =
    l.all.items
    ++ of_classes (of_class (replay l.core.grid (take l.lines l.core.journal)).bookings (drop l.lines l.core.journal) (state_now l.core).bookings l.index l.flight) (26 - l.i) (65 + l.i)
    ≡ l.initial.all.items
    ++ of_letters (of_class (replay l.core.grid (take l.lines l.core.journal)).bookings (drop l.lines l.core.journal) (state_now l.core).bookings l.index l.flight)
