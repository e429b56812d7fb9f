-- The sums of a report, counted in one pass over its live bookings.
use Rattle.std.specs.Prelude.{◌≡◌, ◌≤◌, ◌<◌, ◌^◌, ◌*◌, ℕ, ◌+◌, nat_eq, if◌then◌else◌, List, ◌++◌, filter, map, length, decimal, codes, Option}
use Rattle.std.specs.Cmp.Lexicographic.{pointwise}
use Rattle.std.specs.List.{All, sum_by}
use Rattle.std.specs.Option.{option_eq}
use Rattle.carry_reports.specs.Codes.{word_text}
use Rattle.carry_reports.specs.Sums.{all_codes, has_code, seats_with}
use Rattle.carry_reports.specs.declared.counting.CodeSum.{CodeSum}
use Rattle.carry_reports.specs.declared.fating.Fated.{Fated}

-- how many of these live bookings have a code, and their seats
abbrev pub sum_of : List Fated → Option (List ℕ) → CodeSum
sum_of all code = record { code = code; count = length (filter (has_code code) all); seats = sum_by (seats_with code) all }

-- a sum with one more that has this code and so many seats
abbrev pub counted_by : Option (List ℕ) → ℕ → CodeSum → CodeSum
counted_by code seats s =
    (if option_eq (pointwise nat_eq) code s.code then record { code = s.code; count = s.count + 1; seats = s.seats + seats } else s)

-- there is room for one more
pub record HasRoom (s : CodeSum) : Type 0 where
  pub count : s.count < 2 ^ 63
  pub seats : s.seats < 2 ^ 127

-- it is a sum over so many bookings at most
pub record IsAmong (n : ℕ) (s : CodeSum) : Type 0 where
  pub count : s.count ≤ n
  pub seats : s.seats ≤ n * 65535

-- the sums of those so far
pub record AreSums (seen : List Fated) (n : ℕ) (sums : List CodeSum) : Type 0 where
  pub each : sums ≡ map (sum_of seen) all_codes
  pub few : All (IsAmong n) sums

-- how a sum is written
abbrev pub counted_text : CodeSum → List ℕ
counted_text s = codes " " ++ word_text s.code ++ codes " " ++ decimal s.count ++ codes " " ++ decimal s.seats
