-- Limit rows and legs on one line of numbers: each pair has a run of points, one for each day.
use Rattle.std.specs.Prelude.{◌≡◌, ◌+◌, ◌-◌, ◌*◌, ℕ, Bool, min, max, nat_lt, List, map, count_by, length}
use Rattle.std.specs.List.{All, flat_map}
use Rattle.std.specs.List.Sorted.{IsNonDecreasing, IsPermutation}
use Rattle.airline_base.specs.Days.{IsDay}
use Rattle.ssim_flights.specs.declared.flight.DatedLeg.{DatedLeg}
use Rattle.ssim_flights.specs.declared.flight.Flight.{Flight as Flown}
use Rattle.seat_limits.specs.Authorised.{leg_pair, row_pair}
use Rattle.seat_limits.specs.declared.limit_row.LimitRow.{LimitRow}
use Rattle.seat_questions.specs.PairNumbers.{AreNumbered, number_of}
use Rattle.seat_questions.specs.declared.pair_numbers.PairNumbers.{PairNumbers}
use Rattle.seat_questions.specs.declared.coverage.Coverage.{Coverage}

-- the point of a day of the pair with a number
abbrev pub point : ℕ → ℕ → ℕ
point number day = number * 4_294_967_296 + min day 4_294_967_295

-- where a row begins, and where it ends: behind its last day, and no earlier than it begins
abbrev pub begin_at : ℕ → LimitRow → ℕ
begin_at number row = point number row.from

abbrev pub end_at : ℕ → LimitRow → ℕ
end_at number row = max (point number row.to + 1) (begin_at number row)

abbrev pub row_number : PairNumbers → LimitRow → ℕ
row_number numbers row = number_of numbers.last numbers.count (row_pair row)

abbrev pub begin_of : PairNumbers → LimitRow → ℕ
begin_of numbers row = begin_at (row_number numbers row) row

abbrev pub end_of : PairNumbers → LimitRow → ℕ
end_of numbers row = end_at (row_number numbers row) row

-- where a leg is
abbrev pub day_of : PairNumbers → Flown → DatedLeg → ℕ
day_of numbers flight leg = point (number_of numbers.last numbers.count (leg_pair flight leg)) leg.day

abbrev pub days_of : PairNumbers → Flown → List ℕ
days_of numbers flight = map (day_of numbers flight) flight.legs

-- how many of the numbers are below one
abbrev pub below : ℕ → List ℕ → ℕ
below number numbers = count_by (λ n. nat_lt n number) numbers

-- more legs are before the end of the row than before its beginning
abbrev pub finds_leg : Coverage → LimitRow → Bool
finds_leg c row = nat_lt (below (begin_of c.numbers row) c.days.items) (below (end_of c.numbers row) c.days.items)

-- and so many more
abbrev pub found_legs : Coverage → LimitRow → ℕ
found_legs c row = below (end_of c.numbers row) c.days.items - below (begin_of c.numbers row) c.days.items

-- more rows begin up to the leg than end
abbrev pub finds_row : Coverage → Flown → DatedLeg → Bool
finds_row c flight leg =
    nat_lt (below (day_of c.numbers flight leg + 1) c.spans.ends.items)
    (below (day_of c.numbers flight leg + 1) c.spans.begins.items)

-- the same numbers in ascending order
pub record IsRanking (numbers ascending : List ℕ) : Type 0 where
  pub up : IsNonDecreasing ascending
  pub same : IsPermutation numbers ascending

-- the days of the row's period
pub record IsDatedRow (row : LimitRow) : Type 0 where
  pub from : IsDay row.from
  pub to : IsDay row.to

pub record AreSpans (numbers : PairNumbers) (rows : List LimitRow) (begins ends : List ℕ) : Type 0 where
  pub dated : All IsDatedRow rows
  pub are_begins : IsRanking (map (begin_of numbers) rows) begins
  pub are_ends : IsRanking (map (end_of numbers) rows) ends

-- the numbers may be searched
pub record IsSearchable (c : Coverage) : Type 0 where
  pub days_up : IsNonDecreasing c.days.items
  pub begins_up : IsNonDecreasing c.spans.begins.items
  pub ends_up : IsNonDecreasing c.spans.ends.items

-- the spans of these rows and the days of the legs of these flights
pub record IsCoverage (c : Coverage) (flights : List Flown) (rows : List LimitRow) : Type 0 where
  pub numbered : AreNumbered c.numbers.last rows (length rows)
  pub counted : c.numbers.count ≡ length rows
  pub spans : AreSpans c.numbers rows c.spans.begins.items c.spans.ends.items
  pub days : IsRanking (flat_map (days_of c.numbers) flights) c.days.items
