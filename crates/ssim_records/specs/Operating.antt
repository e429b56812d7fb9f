-- SSIM chapter 7: the days of the week and the weeks in which a leg operates, by its days of operation and frequency rate.
use Rattle.std.specs.Prelude.{ℕ, ◌-◌, ◌/◌, ◌%◌, ◌==◌, ◌&&◌, ◌||◌, Bool, false, not, pos, slice_index_or}
use Rattle.jiff_core.specs.Calendar.{weekday_number}
use Rattle.ssim_records.specs.declared.carrier.Leg.{Leg}

-- the day of the week is one of the days of operation, which begin with Monday
abbrev pub is_listed : Leg → ℕ → Bool
is_listed leg d = slice_index_or leg.days (weekday_number (pos d)) false

-- at frequency rate 2 every second week, counted from the first day of the period (an own rule)
abbrev pub is_in_week : Leg → ℕ → Bool
is_in_week leg d = not leg.second_week || (((d - leg.from) / 7) % 2 == 0)

abbrev pub operates : Leg → ℕ → Bool
operates leg d = is_listed leg d && is_in_week leg d
