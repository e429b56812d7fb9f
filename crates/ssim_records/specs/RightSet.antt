-- What is known of the fields of a data set that was read.
use Rattle.std.specs.Prelude.{◌≡◌, ℕ, ◌<◌, ◌≤◌, IsTrue, Option, IfSome, List, [], ◌∷◌, length, pos, negsuc, ◌≤ℤ◌}
use Rattle.std.specs.Char.{is_ascii_uppercase}
use Rattle.std.specs.List.{All}
use Rattle.ssim_records.specs.declared.carrier.Carrier.{Carrier}
use Rattle.ssim_records.specs.declared.carrier.Leg.{Leg}
use Rattle.ssim_records.specs.declared.set.DataSet.{DataSet}
use Rattle.airline_base.specs.Names.{is_airline, is_station}
use Rattle.airline_base.specs.Days.{IsCenturyDay}

-- a first day, and a last one that is not before it, where there is one
pub record IsPeriod (from : ℕ) (to : Option ℕ) : Type 0 where
  pub first : IsCenturyDay from
  pub last : IfSome to IsCenturyDay
  pub order : IfSome to (λ day. from ≤ day)

pub record IsRightCarrier (c : Carrier) : Type 0 where
  pub airline : IsTrue (is_airline c.airline)
  pub period : IsPeriod c.from c.to

pub record IsRightLeg (leg : Leg) : Type 0 where
  pub number : (1 ≤ leg.number) × (leg.number ≤ 9999)
  pub suffix : IfSome leg.suffix (λ letter. IsTrue (is_ascii_uppercase letter))
  pub variation : leg.variation ≤ 99
  pub sequence : (1 ≤ leg.sequence) × (leg.sequence ≤ 99)
  pub period : IsPeriod leg.from leg.to
  pub days : length leg.days ≡ 7
  pub board : IsTrue (is_station leg.board)
  pub std : leg.std ≤ 1440
  pub offset : (negsuc 1438 ≤ℤ leg.offset) × (leg.offset ≤ℤ pos 1439)
  pub off : IsTrue (is_station leg.off)
  pub shift : (negsuc 0 ≤ℤ leg.shift) × (leg.shift ≤ℤ pos 7)

-- the serials of the legs rise, from above this one
abbrev pub IsRising : ℕ → List Leg → Type 0
IsRising before [] = Unit {0}
IsRising before (leg ∷ legs) = (before < leg.serial) × IsRising leg.serial legs

pub record IsRightSet (set : DataSet) : Type 0 where
  pub carrier : IsRightCarrier set.carrier
  pub legs : All IsRightLeg set.legs
  pub serials : IsRising 2 set.legs
