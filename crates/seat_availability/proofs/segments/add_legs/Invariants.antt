-- The messages of the first legs so far are there.
use Rattle.std.proofs.Common.{◌≡◌, ◌++◌, drop, map}
use Rattle.seat_rules.specs.Inventory.{state_now}
use Rattle.seat_availability.specs.Messages.{each_from, message_of, segments_from, segments_of_legs}
use Rattle.seat_availability.proofs.segments.add_legs.Given as goal

abbrev pub invariant-loop-from : goal.invariant-loop-from
invariant-loop-from l =
    l.all.items ++ map (message_of l.asked (state_now l.core)) (each_from (segments_from l.served l.asked l.core.grid l.index l.flight) l.from (drop l.from l.legs))
    ≡ l.initial.all.items ++ map (message_of l.asked (state_now l.core)) (segments_of_legs l.served l.asked l.core.grid l.index l.flight)
