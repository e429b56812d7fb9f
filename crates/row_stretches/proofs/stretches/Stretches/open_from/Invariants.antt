use Rattle.std.proofs.Common.{◌≡◌, ◌≢◌, ℕ, ◌-◌, ◌<◌, ◌≤◌, None, length, get_or}
use Rattle.row_stretches.specs.Painting.{Skips}
use Rattle.row_stretches.proofs.stretches.Stretches.open_from.Given as goal

abbrev pub invariant-loop-at : goal.invariant-loop-at
invariant-loop-at l = record {
  rows : l.self.rows.items ≡ l.fn.self.rows.items;
  skips_are : Skips l.fn.self.rows.items l.self.skips.items;
  onward : l.from ≤ l.at;
  inside : l.at ≤ length l.fn.self.rows.items;
  closed : (c : ℕ) → l.from ≤ c → c < l.at → get_or l.fn.self.rows.items c None ≢ None;
}

abbrev pub decreases-loop-at : goal.decreases-loop-at
decreases-loop-at l = length l.fn.self.rows.items - l.at
