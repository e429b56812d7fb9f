-- The changes so far are counted.
use Rattle.std.proofs.Common.{◌≡◌, ◌+◌, ◌≤◌, drop, filter, length}
use Rattle.season_changes.specs.Sums.{is_change_counted}
use Rattle.season_changes.proofs.sums.count_of.Given as goal

abbrev pub invariant-loop-change : goal.invariant-loop-change
invariant-loop-change l =
    (length (filter (is_change_counted l.counted) l.all) ≡ l.count + length (filter (is_change_counted l.counted) (drop l.change-index l.all)))
    × (l.count ≤ l.change-index)
