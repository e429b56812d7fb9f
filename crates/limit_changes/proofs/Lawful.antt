-- The laws of the changes behind any journal.
use Rattle.std.proofs.Common.{List, true}
use Rattle.ssim_flights.specs.declared.flight.Flight.{Flight as Flown}
use Rattle.seat_journal.specs.declared.entry.Entry.{Entry}
use Rattle.seat_nesting.specs.Nesting.{Ladders}
use Rattle.seat_rules.specs.Journal.{replay}
use Rattle.limit_changes.specs.Laws.{AreLadders, EachIsAccepted, EachIsReached}
use Rattle.limit_changes.specs.Legs.{kept_legs}
use Rattle.limit_changes.specs.declared.legs.LegsAsked.{LegsAsked}
use Rattle.limit_changes.proofs.Apart.{kept_apart}
use Rattle.limit_changes.proofs.Arriving.{all_accepted, all_reached, ordered_replay}

pub each_is_accepted : EachIsAccepted
each_is_accepted grid wanted journal flights asked ladders right =
    all_accepted wanted (replay grid journal) right (ordered_replay grid journal ladders) (kept_legs asked flights) (kept_apart true flights asked flights)

pub each_is_reached : EachIsReached
each_is_reached grid wanted journal flights asked ladders right =
    all_reached wanted (replay grid journal) right (ordered_replay grid journal ladders) (kept_legs asked flights) (kept_apart true flights asked flights)
