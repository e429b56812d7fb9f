-- Those of the ranks so far are there.
use Rattle.std.proofs.Common.{◌≡◌, ◌++◌, drop}
use Rattle.seat_rules.specs.Inventory.{state_now}
use Rattle.limit_changes.specs.Rows.{seats_now, steps_now}
use Rattle.limit_changes.specs.Shorts.{shorts_from}
use Rattle.limit_changes.proofs.shorts.add_ranks.Given as goal

abbrev pub invariant-loop-i : goal.invariant-loop-i
invariant-loop-i l =
    l.all.items ++ shorts_from l.leg l.wanted (seats_now (state_now l.core) l.leg) (drop l.i (steps_now (state_now l.core) l.leg)) (drop l.i l.new)
    ≡ l.initial.all.items ++ shorts_from l.leg l.wanted (seats_now (state_now l.core) l.leg) (steps_now (state_now l.core) l.leg) l.new
