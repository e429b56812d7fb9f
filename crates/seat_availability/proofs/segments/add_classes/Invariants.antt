-- The messages of the classes so far are there.
use Rattle.std.proofs.Common.{◌≡◌, ◌++◌, drop, map}
use Rattle.seat_rules.specs.Inventory.{state_now}
use Rattle.seat_availability.specs.Messages.{message_of, segment_of}
use Rattle.seat_availability.proofs.segments.add_classes.Given as goal

abbrev pub invariant-loop-i : goal.invariant-loop-i
invariant-loop-i l =
    l.all.items ++ map (message_of l.asked (state_now l.core)) (map (segment_of l.flight l.place l.run) (drop l.i l.steps))
    ≡ l.initial.all.items ++ map (message_of l.asked (state_now l.core)) (map (segment_of l.flight l.place l.run) l.steps)
