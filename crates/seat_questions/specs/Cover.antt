-- What `cover` writes: the limit rows that are for no leg or hidden by those behind them, the legs without a row, and how many there are of both.
use Rattle.std.specs.Prelude.{◌≡◌, ◌&&◌, ℕ, Bool, true, false, not, List, [], ◌∷◌, ◌++◌, length, drop, count_by, decimal, codes}
use Rattle.std.specs.List.{list_any, sum_by}
use Rattle.ssim_flights.specs.declared.flight.DatedLeg.{DatedLeg}
use Rattle.ssim_flights.specs.declared.flight.Flight.{Flight as Flown}
use Rattle.seat_limits.specs.Authorised.{authorised_grid, is_for, leg_pair}
use Rattle.seat_limits.specs.declared.limit_row.LimitRow.{LimitRow}
use Rattle.seat_desk.specs.FlightsDesk.{IsLegText, IsText, designator_text}

-- the row is for the leg, as authorised seats have it
abbrev pub is_row_of : LimitRow → Flown → DatedLeg → Bool
is_row_of row flight leg = is_for (leg_pair flight leg) leg.day row

-- some row is for the leg
abbrev pub has_row : List LimitRow → Flown → DatedLeg → Bool
has_row rows flight leg = list_any (λ row. is_row_of row flight leg) rows

-- the row is for some leg: of the flight, of any flight
abbrev pub is_on : LimitRow → Flown → Bool
is_on row flight = list_any (λ (leg : DatedLeg). is_row_of row flight leg) flight.legs

abbrev pub has_leg : List Flown → LimitRow → Bool
has_leg flights row = list_any (λ flight. is_on row flight) flights

-- the legs that the row is for: of the flight, of all flights
abbrev pub legs_on : LimitRow → Flown → ℕ
legs_on row flight = count_by (λ (leg : DatedLeg). is_row_of row flight leg) flight.legs

abbrev pub legs_for : List Flown → LimitRow → ℕ
legs_for flights row = sum_by (legs_on row) flights

-- the row gives the leg its ladder: it is for the leg, and none of the rows behind it is
abbrev pub gives : List LimitRow → LimitRow → Flown → DatedLeg → Bool
gives behind row flight leg = is_row_of row flight leg && not (has_row behind flight leg)

-- it gives some leg its ladder: of the flight, of any flight
abbrev pub gives_on : List LimitRow → LimitRow → Flown → Bool
gives_on behind row flight = list_any (λ (leg : DatedLeg). gives behind row flight leg) flight.legs

abbrev pub has_effect : List Flown → List LimitRow → LimitRow → Bool
has_effect flights behind row = list_any (λ flight. gives_on behind row flight) flights

-- ROW N NO LEG where it is for none, and ROW N HIDDEN where each leg that it is for has the ladder of a row behind it
abbrev pub row_text : ℕ → Bool → Bool → List ℕ
row_text n true true = []
row_text n true false = codes "ROW " ++ decimal n ++ codes " HIDDEN" ++ 10 ∷ []
row_text n false effect = codes "ROW " ++ decimal n ++ codes " NO LEG" ++ 10 ∷ []

-- by tests of rows: for some leg, and of some effect, by the row's number too
abbrev pub IsRowPartBy : (LimitRow → Bool) → (ℕ → LimitRow → Bool) → ℕ → LimitRow → List ℕ → Type 0
IsRowPartBy has effect n row text = text ≡ row_text n (has row) (effect n row)

-- row n of these, counted from 1, for these flights
abbrev pub effect_among : List LimitRow → List Flown → ℕ → LimitRow → Bool
effect_among rows flights n row = has_effect flights (drop n rows) row

abbrev pub IsRowPart : List LimitRow → List Flown → ℕ → LimitRow → List ℕ → Type 0
IsRowPart rows flights = IsRowPartBy (has_leg flights) (effect_among rows flights)

-- LEG I.J DESIGNATOR
abbrev pub bare_head : ℕ → Flown → ℕ → List ℕ
bare_head i flight j = codes "LEG " ++ decimal i ++ codes "." ++ decimal j ++ codes " " ++ designator_text flight

-- LEG I.J DESIGNATOR BOARD/DAY/OFF NO ROW
abbrev pub IsBareText : ℕ → Flown → ℕ → DatedLeg → List ℕ → Type 0
IsBareText i flight j leg text =
    (way : List ℕ) × IsLegText 0 leg way × (text ≡ bare_head i flight j ++ way ++ codes " NO ROW" ++ 10 ∷ [])

-- where it has no row
abbrev pub IsLegTextBy : Bool → ℕ → Flown → ℕ → DatedLeg → List ℕ → Type 0
IsLegTextBy true i flight j leg text = text ≡ []
IsLegTextBy false i flight j leg text = IsBareText i flight j leg text

-- by a test of legs, and for these rows
abbrev pub IsLegPartBy : (Flown → DatedLeg → Bool) → ℕ → Flown → ℕ → DatedLeg → List ℕ → Type 0
IsLegPartBy test i flight j leg text = IsLegTextBy (test flight leg) i flight j leg text

abbrev pub IsFlightPartBy : (Flown → DatedLeg → Bool) → ℕ → Flown → List ℕ → Type 0
IsFlightPartBy test i flight text = IsText (IsLegPartBy test i flight) 0 flight.legs text

abbrev pub IsFlightPart : List LimitRow → ℕ → Flown → List ℕ → Type 0
IsFlightPart rows = IsFlightPartBy (has_row rows)

-- such a line is written behind what was there
pub record IsBarePut (i : ℕ) (flight : Flown) (j : ℕ) (leg : DatedLeg) (old new : List ℕ) : Type 0 where
  pub line : List ℕ
  pub is_line : IsBareText i flight j leg line
  pub written : new ≡ old ++ line

-- such a part is
pub record IsLegPut (test : Flown → DatedLeg → Bool) (i : ℕ) (flight : Flown) (j : ℕ) (leg : DatedLeg)
    (old new : List ℕ) : Type 0 where
  pub part : List ℕ
  pub is_part : IsLegPartBy test i flight j leg part
  pub written : new ≡ old ++ part

-- the legs of a flight, and those of them that pass the test, or have a row
abbrev pub leg_count : Flown → ℕ
leg_count flight = length flight.legs

abbrev pub covered_by : (Flown → DatedLeg → Bool) → Flown → ℕ
covered_by test flight = count_by (test flight) flight.legs

abbrev pub covered_legs : List LimitRow → Flown → ℕ
covered_legs rows = covered_by (has_row rows)

-- A of B
abbrev pub share_text : ℕ → ℕ → List ℕ
share_text a b = decimal a ++ codes " of " ++ decimal b

-- COVERED legs A of B rows C of D
abbrev pub sums_text : ℕ → ℕ → ℕ → ℕ → List ℕ
sums_text a b c d = codes "COVERED legs " ++ share_text a b ++ codes " rows " ++ share_text c d ++ 10 ∷ []

abbrev pub covered_line : List LimitRow → List Flown → List ℕ
covered_line rows flights =
    sums_text (sum_by (covered_legs rows) flights) (sum_by leg_count flights) (count_by (has_leg flights) rows)
    (length rows)

-- the rows, counted from 1; the legs, flights and legs counted from 0; and the sums
pub record IsCoverText (rows : List LimitRow) (flights : List Flown) (text : List ℕ) : Type 0 where
  pub of_rows : List ℕ
  pub of_legs : List ℕ
  pub are_rows : IsText (IsRowPart rows flights) 1 rows of_rows
  pub are_legs : IsText (IsFlightPart rows) 0 flights of_legs
  pub written : text ≡ of_rows ++ of_legs ++ covered_line rows flights

-- without a row that gives no leg its ladder each leg of each flight has the ladder that it has
abbrev pub RowsWithoutEffectGiveNothing : Type 0
RowsWithoutEffectGiveNothing = (ahead behind : List LimitRow) (row : LimitRow) (flights : List Flown)
    → has_effect flights behind row ≡ false →
    authorised_grid (ahead ++ row ∷ behind) flights ≡ authorised_grid (ahead ++ behind) flights
