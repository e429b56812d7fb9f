-- What SSIM chapter 7 takes as right in the fields that dates are reckoned from.
use Rattle.std.specs.Prelude.{ℕ, ◌≤◌, unwrap_or, pos, negsuc, ◌≤ℤ◌}
use Rattle.ssim_records.specs.declared.carrier.Carrier.{Carrier}
use Rattle.ssim_records.specs.declared.carrier.Leg.{Leg}

-- a day of the years 2000 to 2099
pub record IsOfCentury (day : ℕ) : Type 0 where
  pub begun : 10957 ≤ day
  pub lasts : day ≤ 47481

-- dates of the years 2000 to 2099, a time up to 2400, a UTC/local variation up to 23:59 either way,
-- and a departure date variation from one day earlier to seven days later
pub record IsRightLeg (leg : Leg) : Type 0 where
  pub from : IsOfCentury leg.from
  pub to : unwrap_or leg.to leg.from ≤ 47481
  pub std : leg.std ≤ 1440
  pub early : negsuc 1438 ≤ℤ leg.offset
  pub late : leg.offset ≤ℤ pos 1439
  pub earlier : negsuc 0 ≤ℤ leg.shift
  pub later : leg.shift ≤ℤ pos 7

-- an end, where there is one, of the years up to 2099
pub record IsRightCarrier (carrier : Carrier) : Type 0 where
  pub to : unwrap_or carrier.to 0 ≤ 47481
