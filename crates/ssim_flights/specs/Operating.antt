-- SSIM chapter 7: the days on which a leg operates, by its period, days of operation and frequency rate.
use Rattle.std.specs.Prelude.{◌↔◌, All, Contains, ℕ, ◌+◌, ◌-◌, ◌≤◌, IsTrue, List, ℤ, pos, ◌+ℤ◌, unsigned_abs, unwrap_or, filter}
use Rattle.std.specs.List.{range_with_len}
use Rattle.std.specs.List.Sorted.{IsStrictlyIncreasing}
pub use Rattle.ssim_records.specs.Operating.{is_in_week, is_listed, operates}
use Rattle.ssim_records.specs.declared.carrier.Leg.{Leg}

-- the last day of the period, where `end` stands for an open one
abbrev pub last_day : Leg → ℕ → ℕ
last_day leg end = unwrap_or leg.to end

-- the leg operates on day d
pub record Operates (leg : Leg) (end d : ℕ) : Type 0 where
  pub begun : leg.from ≤ d
  pub lasts : d ≤ last_day leg end
  pub listed : IsTrue (is_listed leg d)
  pub in_week : IsTrue (is_in_week leg d)

-- the operating days among the first n days from the leg's first one on, whatever its last
abbrev pub days_among : Leg → ℕ → List ℕ
days_among leg n = filter (operates leg) (range_with_len leg.from n)

-- those of the period, in order
abbrev pub operating_days : Leg → ℕ → List ℕ
operating_days leg end = days_among leg (last_day leg end + 1 - leg.from)

-- they are exactly the days on which the leg operates
abbrev pub OperatingDaysAreExact : Type 0
OperatingDaysAreExact = (leg : Leg) (end d : ℕ) → Contains (operating_days leg end) d ↔ Operates leg end d

abbrev pub OperatingDaysAscend : Type 0
OperatingDaysAscend = (leg : Leg) (end : ℕ) → IsStrictlyIncreasing (operating_days leg end)

abbrev pub OperatingDaysLieWithin : Type 0
OperatingDaysLieWithin = (leg : Leg) (end : ℕ)
    → All (λ d. (leg.from ≤ d) × (d ≤ last_day leg end)) (operating_days leg end)

-- a day on which a leg operates, and the local day of its departure
pub record Operation : Type 0 where
  pub day : ℕ
  pub local : ℕ

-- the operation on day d, whose local day lies so many days after it
abbrev pub operation : ℤ → ℕ → Operation
operation after d = record { day = d; local = unsigned_abs (pos d +ℤ after) }
