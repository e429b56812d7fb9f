-- The differences of the bookings so far are added.
use Rattle.std.proofs.Common.{◌≡◌, ◌++◌, take}
use Rattle.std.specs.HashMap.{get}
use Rattle.std.specs.List.{flat_map}
use Rattle.partner_lists.specs.Names.{same_name}
use Rattle.partner_questions.specs.Differences.{our_found}
use Rattle.partner_questions.proofs.comparing.put_ours.Given as goal

abbrev pub invariant-loop-booking : goal.invariant-loop-booking
invariant-loop-booking l =
    l.all.items ≡ l.initial.all.items
    ++ flat_map (our_found l.flights (get same_name l.listed) (get same_name l.here) (get same_name l.lines)) (take l.booking-index l.ours)
