-- The flights of each day, which rows of changes need that name no cities.
use Rattle.std.specs.Prelude.{◌≡◌, Bool, false, List, Option, Some, None}
use Rattle.std.specs.Option.{is_none}
use Rattle.flight_days.specs.Leaving.{AreDaysOf}
use Rattle.flight_days.specs.declared.day_flights.DayFlights.{DayFlights}
use Rattle.seat_limits.specs.declared.change_row.ChangeRow.{ChangeRow}
use Rattle.ssim_flights.specs.declared.flight.Flight.{Flight as Flown}

abbrev pub names_no_cities : ChangeRow → Bool
names_no_cities row = is_none row.cities

-- they are known, or the row names its cities
abbrev pub IsIndexed : List Flown → Option DayFlights → ChangeRow → Type 0
IsIndexed flights None row = names_no_cities row ≡ false
IsIndexed flights (Some days) row = AreDaysOf days flights
