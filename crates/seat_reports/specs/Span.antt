-- The days over which a data set has flights.
use Rattle.std.specs.Prelude.{ℕ, ◌+◌, ◌-◌, min, max, nat_lt, if◌then◌else◌, List, [], ◌∷◌, Option, Some, None}
use Rattle.std.specs.Option.{option_or}
use Rattle.ssim_records.specs.declared.carrier.Carrier.{Carrier}
use Rattle.ssim_records.specs.declared.carrier.Leg.{Leg}
use Rattle.ssim_records.specs.declared.set.DataSet.{DataSet}

-- the earliest first day of these legs, and this day
abbrev pub earliest : ℕ → List Leg → ℕ
earliest day [] = day
earliest day (leg ∷ legs) = earliest (min day leg.from) legs

-- of all legs, or of the carrier where there is none
abbrev pub first_from : ℕ → List Leg → ℕ
first_from carrier [] = carrier
first_from carrier (leg ∷ legs) = earliest leg.from legs

abbrev pub first_of : DataSet → ℕ
first_of set = first_from set.carrier.from set.legs

-- the end of a leg's period, or else of the carrier's validity
abbrev pub end_of : Carrier → Leg → Option ℕ
end_of carrier leg = option_or leg.to carrier.to

-- the later end; an open end is later than all
abbrev pub later : Option ℕ → Option ℕ → Option ℕ
later (Some day) (Some other) = Some (max day other)
later _ _ = None

-- the latest end of these legs, and this one
abbrev pub latest : Carrier → Option ℕ → List Leg → Option ℕ
latest carrier day [] = day
latest carrier day (leg ∷ legs) = latest carrier (later day (end_of carrier leg)) legs

abbrev pub last_from : Carrier → List Leg → Option ℕ
last_from carrier [] = carrier.to
last_from carrier (leg ∷ legs) = latest carrier (end_of carrier leg) legs

abbrev pub last_of : DataSet → Option ℕ
last_of set = last_from set.carrier set.legs

-- from one day to another with both, at most 366
abbrev pub days_until : ℕ → ℕ → ℕ
days_until first last = if nat_lt (last - first) 366 then last - first + 1 else 366

-- from the first day to the last, 366 where the end is open
abbrev pub days_between : ℕ → Option ℕ → ℕ
days_between first None = 366
days_between first (Some last) = days_until first last

abbrev pub days_of : DataSet → ℕ
days_of set = days_between (first_of set) (last_of set)
