-- Stretches that get rows.
use Rattle.std.specs.Prelude.{◌≡◌, ◌≢◌, ℕ, ◌+◌, ◌<◌, ◌≤◌, List, length, Option, Some, None, slice_index_or}

-- what a stretch has, or else the row
abbrev pub or_row : Option ℕ → ℕ → Option ℕ
or_row (Some j) row = Some j
or_row None row = Some row

-- the stretches of a range have the row, but for those that had one
pub record Paints (old new : List (Option ℕ)) (from to row : ℕ) : Type 0 where
  pub counted : length new ≡ length old
  pub before : (c : ℕ) → c < from → slice_index_or new c None ≡ slice_index_or old c None
  pub here : (c : ℕ) → from ≤ c → c < to → slice_index_or new c None ≡ or_row (slice_index_or old c None) row
  pub behind : (c : ℕ) → to ≤ c → slice_index_or new c None ≡ slice_index_or old c None

-- a stretch that skips to itself has no row, and from each stretch to the one that it skips to, all have one
pub record Skips (rows : List (Option ℕ)) (skips : List ℕ) : Type 0 where
  pub counted : length skips ≡ length rows + 1
  pub onward : (s : ℕ) → s ≤ length rows → s ≤ slice_index_or skips s 0
  pub inside : (s : ℕ) → slice_index_or skips s 0 ≤ length rows
  pub bare : (s : ℕ) → s < length rows → slice_index_or skips s 0 ≡ s → slice_index_or rows s None ≡ None
  pub closed : (s c : ℕ) → s ≤ c → c < slice_index_or skips s 0 → slice_index_or rows c None ≢ None

-- the first stretch from this one on that has no row, or the number of stretches
pub record IsNext (rows : List (Option ℕ)) (from next : ℕ) : Type 0 where
  pub onward : from ≤ next
  pub inside : next ≤ length rows
  pub bare : next < length rows → slice_index_or rows next None ≡ None
  pub closed : (c : ℕ) → from ≤ c → c < next → slice_index_or rows c None ≢ None
