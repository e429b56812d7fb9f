-- The raises of the legs so far are there.
use Rattle.std.proofs.Common.{◌≡◌, ◌++◌, drop}
use Rattle.std.specs.List.{flat_map}
use Rattle.seat_rules.specs.Inventory.{state_now}
use Rattle.limit_changes.specs.Rows.{raises_of}
use Rattle.limit_changes.proofs.rows.add_raises.Given as goal

abbrev pub invariant-loop-i : goal.invariant-loop-i
invariant-loop-i l =
    l.all.items ++ flat_map (raises_of l.wanted (state_now l.core)) (drop l.i l.legs)
    ≡ l.initial.all.items ++ flat_map (raises_of l.wanted (state_now l.core)) l.legs
