-- What becomes of the flights so far is added.
use Rattle.std.proofs.Common.{◌≡◌, ◌++◌, drop}
use Rattle.seat_rules.specs.Inventory.{state_now}
use Rattle.season_changes.specs.Changes.{each_from, of_old}
use Rattle.season_changes.proofs.changes.add_olds.Given as goal

abbrev pub invariant-loop-i : goal.invariant-loop-i
invariant-loop-i l =
    l.all.items ++ each_from (of_old l.asked l.core.grid (state_now l.core).bookings) l.i (drop l.i l.flights) ≡ l.initial.all.items ++ each_from (of_old l.asked l.core.grid (state_now l.core).bookings) 0 l.flights
