-- The flights so far are added.
use Rattle.std.proofs.Common.{◌≡◌, ◌++◌, drop, take}
use Rattle.seat_rules.specs.Inventory.{state_now}
use Rattle.seat_rules.specs.Journal.{replay}
use Rattle.seat_pickup.specs.Pickups.{of_class, of_flights, pickups_of}
use Rattle.seat_pickup.proofs.classes.pickups.Given as goal

abbrev pub invariant-loop-index : goal.invariant-loop-index
invariant-loop-index l =
    l.all.items
    ++ of_flights l.flight (of_class (replay l.core.grid (take l.lines l.core.journal)).bookings (drop l.lines l.core.journal) (state_now l.core).bookings) l.index (drop l.index l.flights)
    ≡ pickups_of l.flight l.flights l.core.grid l.core.journal l.lines
