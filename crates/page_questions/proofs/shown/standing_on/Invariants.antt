-- None of the classes so far is the one, and it is sought among those that are left.
use Rattle.std.proofs.Common.{◌≡◌, drop}
use Rattle.seat_rules.specs.Bookings.{held}
use Rattle.seat_rules.specs.Inventory.{state_now}
use Rattle.page_questions.specs.Shown.{standing, standing_on}
use Rattle.page_questions.proofs.shown.standing_on.Given as goal

abbrev pub invariant-loop-k : goal.invariant-loop-k
invariant-loop-k l =
    standing (held (state_now l.core).bookings l.index l.leg) l.class (drop l.k l.steps)
    ≡ standing_on (state_now l.core) l.class l.index l.leg
