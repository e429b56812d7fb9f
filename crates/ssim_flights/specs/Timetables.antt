-- Flights by the legs of their itineraries and the rows at which those operate.
use Rattle.std.specs.Prelude.{◌≡◌, ℕ, ◌+◌, ◌*◌, ◌/◌, ◌%◌, ◌<◌, ◌≤◌, List, ◌++◌, All, length, map, slice_index, slice_range, ℤ, pos, ◌+ℤ◌, unsigned_abs}
use Rattle.ssim_flights.specs.declared.flight.DatedLeg.{DatedLeg}
use Rattle.ssim_flights.specs.declared.flight.Flight.{Flight}
use Rattle.ssim_flights.specs.declared.local_days.InRound.{InRound}
use Rattle.ssim_flights.specs.declared.local_days.LocalDays.{LocalDays}
use Rattle.ssim_flights.specs.declared.schedule.Scheduled.{Scheduled}
use Rattle.ssim_flights.specs.declared.timetable.FlightRow.{FlightRow}
use Rattle.ssim_flights.specs.declared.timetable.PlannedLeg.{PlannedLeg}
use Rattle.ssim_flights.specs.declared.timetable.Timetable.{Timetable}
use Rattle.ssim_flights.specs.Operating.{Operation}
use Rattle.ssim_flights.specs.Schedules.{dated_leg, Reaches}

-- ---- local days by rounds

-- local day i: that of its place in the first round, so many rounds later
abbrev pub local_of : LocalDays → ℕ → ℕ
local_of days i = slice_index days.first (i % days.many) + i / days.many * days.round

-- a row among rounds of so many rows each
pub record IsInRound (row many : ℕ) (at : InRound) : Type 0 where
  pub row_is : at.row ≡ row
  pub many_is : at.many ≡ many
  pub past_is : at.past ≡ row / many
  pub place_is : at.place ≡ row % many

-- there is an i-th local day
pub record IsFit (i : ℕ) (days : LocalDays) : Type 0 where
  pub some : 1 ≤ days.many
  pub few : days.many ≤ 14
  pub begun : 10592 ≤ local_of days i
  pub lasts : local_of days i ≤ 84005

-- the first n of these are the days so many days later
pub record AreShifted (after : ℤ) (days : List ℕ) (n : ℕ) (shifted : List ℕ) : Type 0 where
  pub at : (j : ℕ) → j < n → slice_index shifted j ≡ unsigned_abs (pos (slice_index days j) +ℤ after)

-- the local days of all these operating days
pub record AreLocals (after : ℤ) (days : List ℕ) (locals : LocalDays) : Type 0 where
  pub at : (i : ℕ) → i < length days → local_of locals i ≡ unsigned_abs (pos (slice_index days i) +ℤ after)
  pub fit : (i : ℕ) → i < length days → IsFit i locals

-- those of all these operations
pub record AreLocalsOf (operations : List Operation) (locals : LocalDays) : Type 0 where
  pub at : (i : ℕ) → i < length operations → local_of locals i ≡ slice_index (map (λ o. o.local) operations) i
  pub fit : (i : ℕ) → i < length operations → IsFit i locals

-- ---- flights by rows

-- the leg at a row
abbrev pub planned_on : ℕ → PlannedLeg → DatedLeg
planned_on i leg = record { day = local_of leg.days i; time = leg.time; board = leg.board; off = leg.off }

-- the legs of a flight
abbrev pub legs_at : List PlannedLeg → FlightRow → List PlannedLeg
legs_at legs row = slice_range legs row.start (row.start + row.count)

abbrev pub flight_at : List PlannedLeg → FlightRow → Flight
flight_at legs row = record {
  airline = row.airline;
  number = row.number;
  suffix = row.suffix;
  legs = map (planned_on row.row) (legs_at legs row);
}

-- the flights of a timetable
unfoldable pub flights_in : Timetable → List Flight
flights_in table = map (flight_at table.legs.items) table.rows.items

-- the flight of another row
abbrev pub at_row : FlightRow → ℕ → FlightRow
at_row flight_row i = record flight_row { row = i }

-- the legs of a flight are there, at most 8, and each operates at its row
pub record IsRowOf (legs : List PlannedLeg) (row : FlightRow) : Type 0 where
  pub inside : row.start + row.count ≤ length legs
  pub few : row.count ≤ 8
  pub fit : All (λ leg. IsFit row.row leg.days) (legs_at legs row)

pub record IsTable (table : Timetable) : Type 0 where
  pub rows : All (IsRowOf table.legs.items) table.rows.items
  -- each itinerary flies
  pub small : length table.legs.items ≤ 8 * length table.rows.items

-- ---- an itinerary more

-- what is worked out of a leg is what it is
pub record IsPlanned (leg : Scheduled) (planned : PlannedLeg) : Type 0 where
  pub on : (i : ℕ) → i < length leg.operations → planned_on i planned ≡ dated_leg i leg
  pub fit : (i : ℕ) → i < length leg.operations → IsFit i planned.days

-- these legs were added
pub record ArePlanned (old new : List PlannedLeg) (legs : List Scheduled) : Type 0 where
  pub more : List PlannedLeg
  pub items : new ≡ old ++ more
  pub long : length more ≡ length legs
  pub on : (i : ℕ) → Reaches legs i → map (planned_on i) more ≡ map (dated_leg i) legs
  pub fit : (i : ℕ) → Reaches legs i → All (λ leg. IsFit i leg.days) more
