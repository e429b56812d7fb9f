-- The changes of the ranks so far are there.
use Rattle.std.proofs.Common.{◌≡◌, ◌++◌, drop, map}
use Rattle.limit_changes.specs.Reaching.{changes_down}
use Rattle.limit_changes.specs.Rows.{row_of}
use Rattle.limit_changes.proofs.rows.add_down.Given as goal

abbrev pub invariant-loop-i : goal.invariant-loop-i
invariant-loop-i l =
    l.all.items ++ map (row_of l.leg) (changes_down (drop l.i l.old) (drop l.i l.new))
    ≡ l.initial.all.items ++ map (row_of l.leg) (changes_down l.old l.new)
