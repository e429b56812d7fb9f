-- Those of the legs so far are there.
use Rattle.std.proofs.Common.{◌≡◌, ◌++◌, drop}
use Rattle.std.specs.List.{flat_map}
use Rattle.seat_rules.specs.Inventory.{state_now}
use Rattle.limit_changes.specs.Shorts.{unnamed, unnamed_of}
use Rattle.limit_changes.proofs.shorts.unnamed_of.Given as goal

abbrev pub invariant-loop-i : goal.invariant-loop-i
invariant-loop-i l =
    l.all.items ++ flat_map (unnamed_of l.wanted (state_now l.core)) (drop l.i l.legs) ≡ unnamed l.wanted (state_now l.core) l.legs
