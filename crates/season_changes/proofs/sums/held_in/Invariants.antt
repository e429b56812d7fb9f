-- The seats so far are counted.
use Rattle.std.proofs.Common.{◌≡◌, ◌≤◌, ◌*◌, take}
use Rattle.std.specs.List.{sum_by}
use Rattle.season_changes.specs.Sums.{held_beside}
use Rattle.season_changes.proofs.sums.held_in.Given as goal

abbrev pub invariant-loop-change : goal.invariant-loop-change
invariant-loop-change l = record {
  total : l.seats ≡ sum_by held_beside (take l.change-index l.all);
  bound : l.seats ≤ l.change-index * 18446744073709551615;
}
