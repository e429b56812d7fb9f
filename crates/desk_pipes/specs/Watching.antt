-- Lines that are answered where they are read.
use Rattle.std.specs.Prelude.{ℕ, ◌+◌, ◌-◌, ◌^◌, min, Bool, true, false}

-- the day on which lines are read, and how many lines of the journal are told
pub record Outlooked : Type 0 where
  pub today : ℕ
  pub lines : ℕ

-- lines are counted up to the highest number
abbrev pub one_more : ℕ → ℕ
one_more n = min (n + 1) (2 ^ 32 - 1)

-- how many were answered since one was handed on to the host, behind a line that is answered or handed on
abbrev pub passed_behind : Bool → ℕ → ℕ
passed_behind true passed = one_more passed
passed_behind false passed = 0
