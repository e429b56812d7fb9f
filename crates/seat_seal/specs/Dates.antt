-- Dates of the years 2000 to 2099.
use Rattle.std.specs.Prelude.{ℕ, Bool, ◌&&◌, nat_le, if◌then◌else◌, Option, None, is_some}
use Rattle.airline_base.specs.Days.{civil_in}
use Rattle.seat_seal.specs.declared.date.Date.{Date}

abbrev pub is_of_century : Date → Bool
is_of_century d = nat_le 2000 d.year && nat_le d.year 2099

-- the day of this date, where the calendar has it
unfoldable pub day_in : Date → Option ℕ
day_in d = if is_of_century d then civil_in d.year d.month d.day else None

abbrev pub is_date : Date → Bool
is_date d = is_some (day_in d)
