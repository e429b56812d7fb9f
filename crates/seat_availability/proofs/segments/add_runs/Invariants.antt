-- The messages of the last legs so far are there.
use Rattle.std.proofs.Common.{◌≡◌, ◌+◌, ◌++◌, drop, map}
use Rattle.seat_rules.specs.Inventory.{state_now}
use Rattle.seat_availability.specs.Messages.{each_from, message_of, segments_from, segments_to}
use Rattle.seat_availability.proofs.segments.add_runs.Given as goal

abbrev pub invariant-loop-k : goal.invariant-loop-k
invariant-loop-k l =
    l.all.items
    ++ map (message_of l.asked (state_now l.core))
    (each_from (segments_to l.served l.asked l.core.grid l.start.flight l.flight l.start.from l.first) (l.start.from + l.k) (drop l.k l.rest))
    ≡ l.initial.all.items
    ++ map (message_of l.asked (state_now l.core)) (segments_from l.served l.asked l.core.grid l.start.flight l.flight l.start.from l.first)
