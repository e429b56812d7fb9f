-- The operating days of a leg by rounds.
use Rattle.std.proofs.Common.{◌≡◌, ℕ, ◌+◌, ◌-◌, ◌*◌, ◌/◌, ◌%◌, ◌^◌, ◌<◌, ◌≤◌, nat_lt, Bool, true, false, Option, Some, None, unwrap_or, ⊎_elim, List, filter, length, get_or, pos, min, refl, sym, ap, subst, ◌∙◌, arith}
use Rattle.ssim_flights.proofs.Common.{Leg, operating_days, AreBefore}
use Rattle.std.proofs.lemmas.Bool.{cases_lt}
use Rattle.std.proofs.lemmas.List.Elements.{All-get_or}
use Rattle.std.proofs.lemmas.Nat.{div-add-mod', mul-le, mod_below}
use Rattle.std.proofs.Math.Nat.{mul-zero}
use Rattle.jiff_core.specs.Calendar.{weekday_number}
use Rattle.jiff_core.proofs.CalendarLemmas.{weekday_number-parts}
use Rattle.jiff_core.proofs.SignedLemmas.{signed_arith}
use Rattle.ssim_flights.specs.Operating.{days_among, last_day, operates}
use Rattle.ssim_flights.specs.Rounds.{AreRounds, round_days}
use Rattle.ssim_flights.proofs.OperatingDays.{days_within}
use Rattle.ssim_flights.proofs.Repeating.{before, below, counted, few, found, shorter}

same_weekday : (n c d e : ℕ) → e ≡ d + c → c ≡ 7 * n → weekday_number (pos e) ≡ weekday_number (pos d)
same_weekday n c d e at weeks = omega (arith, signed_arith, weekday_number-parts (pos e), weekday_number-parts (pos d))

again_by : (second : Bool) (leg : Leg) (d : ℕ) → leg.second_week ≡ second → leg.from ≤ d
    → operates leg (d + round_days second) ≡ operates leg d
again_by false leg d e h =
    let day : weekday_number (pos (d + 7)) ≡ weekday_number (pos d) = same_weekday 1 7 d (d + 7) refl refl in
    rw (day, e)
again_by true leg d e h =
    let day : weekday_number (pos (d + 14)) ≡ weekday_number (pos d) = same_weekday 2 14 d (d + 14) refl refl in
    let week : (d + 14 - leg.from) / 7 % 2 ≡ (d - leg.from) / 7 % 2 = omega arith in
    rw (day, week)

-- a leg operates again after a round
again : (leg : Leg) (d : ℕ) → leg.from ≤ d → operates leg (d + round_days leg.second_week) ≡ operates leg d
again leg d h = again_by leg.second_week leg d refl h

pub round_bounds : (second : Bool) → (7 ≤ round_days second) × (round_days second ≤ 14)
round_bounds true = (omega arith, omega arith)
round_bounds false = (omega arith, omega arith)

-- a round has at most as many operating days as days
pub few_in_round : (leg : Leg) (first : List ℕ) → first ≡ days_among leg (round_days leg.second_week)
    → length first ≤ 14
few_in_round leg first e =
    let n = few (operates leg) leg.from (round_days leg.second_week) in
    let b = round_bounds leg.second_week in
    let l = ap length e in
    omega arith

-- those among n days, by whole rounds and the days of the next one
pub among_is : (leg : Leg) (first : List ℕ) (n b : ℕ) → first ≡ days_among leg (round_days leg.second_week)
    → b ≡ leg.from + n % round_days leg.second_week
    → n / round_days leg.second_week * length first + length (filter (λ d. nat_lt d b) first)
    ≡ length (days_among leg n)
among_is leg first n b e at =
    let c = round_days leg.second_week in
    let bounds = round_bounds leg.second_week in
    let rest : n % c < c = mod_below n c (omega arith) in
    let all = counted (operates leg) leg.from c (again leg) (n / c) (n % c) n (sym (div-add-mod' n c)) in
    let some = below (operates leg) leg.from (n % c) c b (omega arith) at in
    rw (e, some) (sym all)

pub before_is : (leg : Leg) (end d n count : ℕ) → n ≡ d - leg.from
    → count ≡ min (length (days_among leg n)) (length (operating_days leg end))
    → AreBefore (operating_days leg end) d count
before_is leg end d n count e f = before (operates leg) leg.from (last_day leg end + 1 - leg.from) n d count e f

-- the j-th day of the round after k others
placed : (leg : Leg) (xs : List ℕ) (k j n : ℕ) → xs ≡ days_among leg (round_days leg.second_week) → j < length xs
    → k * length xs + j < length (days_among leg n)
    → get_or (days_among leg n) (k * length xs + j) 0 ≡ get_or xs j 0 + k * round_days leg.second_week
placed leg xs k j n e = rw e (found (operates leg) leg.from (round_days leg.second_week) (again leg) k j n)

module _ (leg : Leg) (end : ℕ) (first : List ℕ) (count i : ℕ) (are : AreRounds leg end first count) (inside : i < length (operating_days leg end)) where
  -- where there is an i-th day the first round has one
  pub some_first : 0 < length first
  some_first = ⊎_elim (λ h. h) (λ none. absurd (no_day none)) (cases_lt 0 (length first))
    where
      no_day : length first ≤ 0 → ⊥
      no_day none =
          let n = last_day leg end + 1 - leg.from in
          let c = round_days leg.second_week in
          let bounds = round_bounds leg.second_week in
          let rest : n % c < c = mod_below n c (omega arith) in
          let round = ap length are.first in
          let nothing : length (days_among leg c) ≡ 0 = omega arith in
          let all = counted (operates leg) leg.from c (again leg) (n / c) (n % c) n (sym (div-add-mod' n c)) in
          let product : n / c * length (days_among leg c) ≡ 0 = ap (λ k. n / c * k) nothing ∙ mul-zero (n / c) in
          let short = shorter (operates leg) leg.from (n % c) c (omega arith) in
          omega arith

  pub place_in : i % length first < length first
  place_in = mod_below i (length first) some_first

  pub found_is : get_or first (i % length first) 0 + i / length first * round_days leg.second_week
      ≡ get_or (operating_days leg end) i 0
  found_is =
      let place : i / length first * length first + i % length first ≡ i = div-add-mod' i (length first) in
      let known = placed leg first (i / length first) (i % length first) (last_day leg end + 1 - leg.from) are.first place_in (omega arith) in
      sym (ap (λ k. get_or (operating_days leg end) k 0) (sym place) ∙ known)

  pub day_range : (10957 ≤ get_or (operating_days leg end) i 0) × (get_or (operating_days leg end) i 0 ≤ 47846)
  day_range =
      let from = are.from.begun in
      let lasts = are.lasts in
      let w : (leg.from ≤ get_or (operating_days leg end) i 0) × (get_or (operating_days leg end) i 0 ≤ last_day leg end) =
      All-get_or (λ d. (leg.from ≤ d) × (d ≤ last_day leg end)) (operating_days leg end) i 0 inside (days_within leg end) in
      (omega arith, omega arith)

  past_small : (i / length first ≤ 47846) × (i / length first * round_days leg.second_week ≤ 47846)
  past_small =
      let e = found_is in
      let day = day_range in
      let bounds = round_bounds leg.second_week in
      let product : i / length first * 1 ≤ i / length first * round_days leg.second_week = mul-le (i / length first) 1 (i / length first) (round_days leg.second_week) (omega arith) (omega arith) in
      (omega arith, omega arith)

-- day i is that of its place in the first round, so many rounds later
pub record IsPlaced (leg : Leg) (days first : List ℕ) (i c : ℕ) : Type 0 where
  pub some : 0 < length first
  pub place : i % length first < length first
  pub few : length first ≤ 14
  pub day : get_or first (i % length first) 0 + i / length first * c ≡ get_or days i 0
  pub low : 10957 ≤ get_or days i 0
  pub high : get_or days i 0 ≤ 47846
  pub rounds : i / length first ≤ 47846
  pub past : i / length first * c ≤ 47846

pub is_placed : (leg : Leg) (end : ℕ) (days first held : List ℕ) (count i c : ℕ) → AreRounds leg end held count
    → first ≡ held → operating_days leg end ≡ days → c ≡ round_days leg.second_week → i < length days
    → IsPlaced leg days first i c
is_placed leg end days first held count i c are e view round inside = rw (e, round, ← view) (record {
  some = some_first leg end held count i are inside';
  place = place_in leg end held count i are inside';
  few = few_in_round leg held are.first;
  day = found_is leg end held count i are inside';
  low = (day_range leg end held count i are inside').0;
  high = (day_range leg end held count i are inside').1;
  rounds = (past_small leg end held count i are inside').0;
  past = (past_small leg end held count i are inside').1;
})
  where
    inside' : i < length (operating_days leg end)
    inside' = subst (λ (ds : List ℕ). i < length ds) (sym view) inside

-- whole rounds have few enough days to be counted
pub product_small : (leg : Leg) (first : List ℕ) (n c : ℕ) → first ≡ days_among leg (round_days leg.second_week)
    → c ≡ round_days leg.second_week → n < 2 ^ 32 → n / c * length first < 2 ^ 63
product_small leg first n c e round small =
    let few = few_in_round leg first e in
    let bounds = round_bounds leg.second_week in
    let whole : n / c * c + n % c ≡ n = div-add-mod' n c in
    let one : n / c * 1 ≤ n / c * c = mul-le (n / c) 1 (n / c) c (omega arith) (omega arith) in
    let product : n / c * length first ≤ 4294967296 * 14 = mul-le (n / c) (length first) 4294967296 14 (omega arith) few in
    omega arith

-- the last day of a right leg's period
pub last_small : (to : Option ℕ) (from end : ℕ) → unwrap_or to from ≤ 47481 → end ≤ 47846 → unwrap_or to end ≤ 47846
last_small None from end h small = small
last_small (Some day) from end h small = omega arith
