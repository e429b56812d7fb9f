-- What `flights` writes: one line for each dated flight.
use Rattle.std.specs.Prelude.{◌≡◌, ◌≤◌, ℕ, List, [], ◌∷◌, ◌++◌, length}
use Rattle.ssim_flights.specs.declared.flight.Flight.{Flight as Flown}
use Rattle.seat_desk.specs.CheckDesk.{most_set_bytes}
use Rattle.seat_desk.specs.FlightsDesk.{IsLegText, IsSchedule, IsText, head_text}

-- INDEX DESIGNATOR and each leg
abbrev pub IsFlightLine : ℕ → Flown → List ℕ → Type 0
IsFlightLine index flight line = (legs : List ℕ) × IsText IsLegText 0 flight.legs legs
    × (line ≡ head_text index flight ++ legs ++ 10 ∷ [])

abbrev pub IsFlightsText : List Flown → List ℕ → Type 0
IsFlightsText flights text = IsText IsFlightLine 0 flights text

-- such a line is written behind what was there
pub record IsLinePut (index : ℕ) (flight : Flown) (old new : List ℕ) : Type 0 where
  pub line : List ℕ
  pub is_line : IsFlightLine index flight line
  pub written : new ≡ old ++ line

-- the bytes are not too large, and the text is a line for each of their flights
pub record IsListing (first days : ℕ) (bytes text : List ℕ) : Type 0 where
  pub within : length bytes ≤ most_set_bytes
  pub flights : List Flown
  pub is_schedule : IsSchedule bytes first days flights
  pub is_text : IsFlightsText flights text
