-- The operating days of a leg by rounds of one or two weeks, each like the first.
use Rattle.std.specs.Prelude.{◌≡◌, ℕ, ◌≤◌, ◌<◌, Bool, true, false, List, length, slice_index}
use Rattle.ssim_records.specs.declared.carrier.Leg.{Leg}
use Rattle.ssim_flights.specs.Operating.{days_among, last_day, operating_days}
use Rattle.ssim_flights.specs.Right.{IsOfCentury}

-- after how many days the days of operation come again: two weeks at frequency rate 2
abbrev pub round_days : Bool → ℕ
round_days true = 14
round_days false = 7

-- those of the first round, and how many there are in the whole period
pub record AreRounds (leg : Leg) (end : ℕ) (first_round : List ℕ) (count : ℕ) : Type 0 where
  pub from : IsOfCentury leg.from
  pub lasts : last_day leg end ≤ 47846
  pub first : first_round ≡ days_among leg (round_days leg.second_week)
  pub all : count ≡ length (operating_days leg end)

-- the first n of the days lie before the day d, and no other
pub record AreBefore (days : List ℕ) (d n : ℕ) : Type 0 where
  pub some : n ≤ length days
  pub before : (i : ℕ) → i < n → slice_index days i < d
  pub behind : (i : ℕ) → n ≤ i → i < length days → d ≤ slice_index days i
