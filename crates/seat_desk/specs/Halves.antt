-- What is known of one of the two inputs of a load.
use Rattle.std.specs.Prelude.{◌≤◌, ℕ, List, length}
use Rattle.ssim_flights.specs.declared.flight.Flight.{Flight as Flown}
use Rattle.seat_limits.specs.LimitRows.{IsLimitText}
use Rattle.seat_limits.specs.declared.limit_row.LimitRow.{LimitRow}
use Rattle.seat_desk.specs.CheckDesk.{most_set_bytes}
use Rattle.seat_desk.specs.FlightsDesk.{IsSchedule}
use Rattle.seat_desk.specs.Loading.{most_limit_bytes}

-- the set is not too large, and has these flights
pub record HasFlights (first days : ℕ) (flights : List Flown) (set : List ℕ) : Type 0 where
  pub within : length set ≤ most_set_bytes
  pub is_schedule : IsSchedule set first days flights

-- the limits are not too large, and are these rows
pub record HasRows (rows : List LimitRow) (limits : List ℕ) : Type 0 where
  pub within : length limits ≤ most_limit_bytes
  pub are_rows : IsLimitText limits rows
