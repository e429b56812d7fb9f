-- The rows that give legs their ladders, by their places among the rows.
use Rattle.std.specs.Prelude.{◌≡◌, ℕ, ◌-◌, ◌<◌, ◌==◌, ◌||◌, Bool, false, List, length, Option, Some, None, slice_index_or}
use Rattle.std.specs.List.{list_any}
use Rattle.ssim_flights.specs.declared.flight.DatedLeg.{DatedLeg}
use Rattle.ssim_flights.specs.declared.flight.Flight.{Flight as Flown}
use Rattle.seat_limits.specs.Authorised.{is_for, leg_pair}
use Rattle.seat_limits.specs.RowStretches.{last_where}
use Rattle.seat_limits.specs.declared.limit_row.LimitRow.{LimitRow}

-- the last row that is for the leg
abbrev pub last_row : List LimitRow → Flown → DatedLeg → Option ℕ
last_row rows flight leg = last_where (is_for (leg_pair flight leg) leg.day) rows (length rows)

abbrev pub is_that : ℕ → Option ℕ → Bool
is_that i None = false
is_that i (Some k) = k == i

-- row i, counted from 0, is the last one of some leg: of the flight, of any flight
abbrev pub wins_on : List LimitRow → ℕ → Flown → Bool
wins_on rows i flight = list_any (λ (leg : DatedLeg). is_that i (last_row rows flight leg)) flight.legs

abbrev pub wins : List LimitRow → List Flown → ℕ → Bool
wins rows flights i = list_any (λ flight. wins_on rows i flight) flights

-- marks beside rows, by which row n, counted from 1, is marked
abbrev pub is_marked : List Bool → ℕ → LimitRow → Bool
is_marked marks n row = slice_index_or marks (n - 1) false

-- those are marked that were, and those that pass a test
pub record Marks (test : ℕ → Bool) (old new : List Bool) : Type 0 where
  pub counted : length new ≡ length old
  pub each : (i : ℕ) → i < length old → slice_index_or new i false ≡ (slice_index_or old i false || test i)

-- beside each row stands whether it wins
pub record AreWinners (rows : List LimitRow) (flights : List Flown) (marks : List Bool) : Type 0 where
  pub counted : length marks ≡ length rows
  pub each : (i : ℕ) → i < length rows → slice_index_or marks i false ≡ wins rows flights i
