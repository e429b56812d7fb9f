-- Counts that are kept in one row: 26 for each flight, of the classes from A to Z or of the legs.
use Rattle.std.specs.Prelude.{◌≡◌, ◌<◌, ◌≤◌, ℕ, ◌+◌, ◌-◌, ◌*◌, ◌==◌, List, length, slice_index_or, if◌then◌else◌}
use Rattle.seat_pickup.specs.Moves.{Counts}

abbrev pub spot : ℕ → ℕ → ℕ
spot flight class = flight * 26 + (class - 65)

-- the count of a flight and a class or leg
abbrev pub count_at : List ℕ → Counts
count_at row f c = slice_index_or row (spot f c) 0

-- so much is added at a place, if the row has it
pub record AddsAt (place seats : ℕ) (old new : List ℕ) : Type 0 where
  pub counted : length new ≡ length old
  pub each : (k : ℕ) → k < length old → slice_index_or new k 0 ≡ slice_index_or old k 0 + (if k == place then seats else 0)

-- these counts are added, for each flight and each class or leg that the row has
pub record Adds (more : Counts) (old new : List ℕ) : Type 0 where
  pub counted : length new ≡ length old
  pub each : (f c : ℕ) → 65 ≤ c → c ≤ 90 → spot f c < length old → count_at new f c ≡ count_at old f c + more f c

-- the row has these counts of so many flights
pub record AreCounts (flights : ℕ) (of : Counts) (row : List ℕ) : Type 0 where
  pub counted : length row ≡ flights * 26
  pub each : (f c : ℕ) → f < flights → 65 ≤ c → c ≤ 90 → count_at row f c ≡ of f c
