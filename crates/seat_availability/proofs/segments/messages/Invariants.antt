-- The messages of the flights so far are there.
use Rattle.std.proofs.Common.{◌≡◌, ◌++◌, drop, map}
use Rattle.seat_rules.specs.Inventory.{state_now}
use Rattle.seat_availability.specs.Messages.{each_from, message_of, messages, segments_of_flight}
use Rattle.seat_availability.proofs.segments.messages.Given as goal

abbrev pub invariant-loop-index : goal.invariant-loop-index
invariant-loop-index l =
    l.all.items ++ map (message_of l.asked (state_now l.core)) (each_from (segments_of_flight l.flights l.asked l.core.grid) l.index (drop l.index l.flights))
    ≡ messages l.asked l.flights l.core.grid (state_now l.core)
