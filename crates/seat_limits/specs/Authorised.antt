-- Authorised seats: which ladder the limit rows give to a dated leg.
use Rattle.std.specs.Prelude.{◌≡◌, ◌<◌, ◌≤◌, ℕ, zero, suc, ◌==◌, nat_eq, nat_le, Bool, true, false, ◌&&◌, List, [], length, map, fold, Option, Some, None, option_map, unwrap_or, slice_get, if◌then◌else◌}
use Rattle.std.specs.Option.{option_eq}
use Rattle.std.specs.HashMap.{HashMap, get}
use Rattle.std.specs.Cmp.Lexicographic.{pointwise}
use Rattle.std.specs.declared.hash.FoldHasher.{FoldHasher}
use Rattle.std.specs.declared.hash.BuildHasherDefault.{BuildHasherDefault}
use Rattle.ssim_flights.specs.declared.flight.DatedLeg.{DatedLeg}
use Rattle.ssim_flights.specs.declared.flight.Flight.{Flight}
use Rattle.seat_nesting.specs.Nesting.{Steps, Ladders, steps_at}
use Rattle.seat_limits.specs.declared.limit_row.LimitRow.{LimitRow}
use Rattle.seat_limits.specs.declared.row_index.Pair.{Pair}

-- the flight and the city pair of a row, and of a leg
abbrev pub row_pair : LimitRow → Pair
row_pair row =
    record { airline = row.airline; number = row.number; suffix = row.suffix; board = row.board; off = row.off }

abbrev pub leg_pair : Flight → DatedLeg → Pair
leg_pair flight leg =
    record {
      airline = flight.airline;
      number = flight.number;
      suffix = flight.suffix;
      board = leg.board;
      off =
          leg.off;
    }

-- the same airline, number, suffix and city pair
abbrev pub same_pair : Pair → Pair → Bool
same_pair a b =
    pointwise nat_eq a.airline b.airline
    && ((a.number == b.number) && (option_eq nat_eq a.suffix b.suffix
    && (pointwise nat_eq a.board b.board && pointwise nat_eq a.off b.off)))

-- the period of the row holds the day
abbrev pub holds_day : LimitRow → ℕ → Bool
holds_day row day = nat_le row.from day && nat_le day row.to

-- the row is for this pair on this day
abbrev pub is_for : Pair → ℕ → LimitRow → Bool
is_for pair day row = same_pair (row_pair row) pair && holds_day row day

-- a row that is for the leg takes the place of the rows before it
abbrev pub after_row : Pair → ℕ → Steps → LimitRow → Steps
after_row pair day steps row = (if is_for pair day row then row.ladder else steps)

-- the ladder of the last row that is for the leg; no class without such a row
abbrev pub authorised : List LimitRow → Pair → ℕ → Steps
authorised rows pair day = fold (after_row pair day) [] rows

abbrev pub authorised_legs : List LimitRow → Flight → List Steps
authorised_legs rows flight = map (λ (leg : DatedLeg). authorised rows (leg_pair flight leg) leg.day) flight.legs

-- the ladder of each leg of each flight
abbrev pub authorised_grid : List LimitRow → List Flight → Ladders
authorised_grid rows flights = map (authorised_legs rows) flights

-- ---- rows by their pairs

abbrev pub LastRows : Type 0
LastRows = HashMap Pair ℕ (BuildHasherDefault FoldHasher)

abbrev pub is_of : Pair → Option LimitRow → Bool
is_of pair None = false
is_of pair (Some row) = same_pair (row_pair row) pair

-- the last of the first n rows that is of the pair
abbrev pub last_below : Pair → List LimitRow → ℕ → Option ℕ
last_below pair rows zero = None
last_below pair rows (suc n) = (if is_of pair (slice_get rows n) then Some n else last_below pair rows n)

-- i is put for the pair
pub record PutsRow (old new : LastRows) (pair : Pair) (i : ℕ) : Type 0 where
  pub at : (p : Pair) → get same_pair new p ≡ (if same_pair pair p then Some i else get same_pair old p)

-- the last of the first n rows by pair
pub record HasLastRows (last : LastRows) (rows : List LimitRow) (n : ℕ) : Type 0 where
  pub last_is : (p : Pair) → get same_pair last p ≡ last_below p rows n

-- the rows from the one place on, before the other, are of the pair
pub record IsRun (rows : List LimitRow) (pair : Pair) (from end : ℕ) : Type 0 where
  pub each : (k : ℕ) → from ≤ k → k < end → is_of pair (slice_get rows k) ≡ true

-- ---- ladders by their rows

-- the ladder of a row, by its number
abbrev pub row_steps : List LimitRow → Option ℕ → Steps
row_steps rows None = []
row_steps rows (Some i) = unwrap_or (option_map (λ (row : LimitRow). row.ladder) (slice_get rows i)) []

-- what stands beside a row
abbrev pub number_at : List (Option ℕ) → ℕ → Option ℕ
number_at numbers i = unwrap_or (slice_get numbers i) None

-- beside each row the number of its ladder among these, or nothing yet
pub record AreNumbers (numbers : List (Option ℕ)) (rows : List LimitRow) (ladders : List Steps) : Type 0 where
  pub counted : length numbers ≡ length rows
  pub each : (i k : ℕ) → number_at numbers i ≡ Some k
      → (k < length ladders) × (steps_at ladders k ≡ row_steps rows (Some i))

-- a number that stands beside a row with an equal ladder
pub record IsNumberOf (numbers : List (Option ℕ)) (rows : List LimitRow) (ladder : Steps) (k : ℕ) : Type 0 where
  pub row : ℕ
  pub beside : number_at numbers row ≡ Some k
  pub same : row_steps rows (Some row) ≡ ladder
