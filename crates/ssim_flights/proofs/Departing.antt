-- No two flights of a carrier have the same number, suffix and first operating day.
use Rattle.std.proofs.Common.{◌≡◌, ℕ, ℤ, pos, ◌+ℤ◌, unsigned_abs, ◌<◌, Bool, true, false, cond, ◌||◌, ◌&&◌, ◌==◌, nat_eq, List, [], ◌∷◌, ◌++◌, length, get_or, map, Some, None, refl, sym, ap, subst, ◌∙◌, append_assoc, append-nil, arith}
use Rattle.ssim_flights.proofs.Common.{list_any, IsDistinct, range_with_len, Leg, Departure, Plan, Scheduled, departure, departures_on, leg_one_if, operating_days, day_at, is_in_horizon, rows, schedule, shortest}
use Rattle.std.specs.Option.{option_eq}
use Rattle.std.specs.List.{AllByRecursion}
use Rattle.std.specs.List.Sorted.{IsStrictlyIncreasing}
use Rattle.std.specs.Cmp.{IsEquivalence}
use Rattle.std.specs.Cmp.Lexicographic.{options_equiv}
use Rattle.std.proofs.lemmas.Bool.{true≢false, and_right, ne_eqb}
use Rattle.std.proofs.lemmas.Cmp.{nat_eq_equiv, on_equiv, and_equiv}
use Rattle.std.proofs.lemmas.List.{get_or-map, length-map}
use Rattle.std.proofs.lemmas.List.Folds.{list_any-append}
use Rattle.std.proofs.lemmas.List.Kept.{IsStrictlyIncreasing-filter}
use Rattle.std.proofs.lemmas.Map.Keys.{IsDistinct-from_apart, IsDistinct-head, IsDistinct-tail, IsDistinct-push, sorted_from_strictly_increasing, below_from_sorted}
use Rattle.ssim_flights.specs.Flown.{same_departure}
use Rattle.ssim_flights.specs.Operating.{operation}
use Rattle.ssim_flights.specs.Schedules.{days_after, scheduled}
use Rattle.ssim_flights.proofs.Chaining.{rows_reach}
use Rattle.ssim_flights.proofs.OperatingDays.{days_increase, range_increases}

departures_equiv : IsEquivalence same_departure
departures_equiv =
    and_equiv (on_equiv (λ (d : Departure). d.number) nat_eq_equiv)
    (and_equiv (on_equiv (λ (d : Departure). d.suffix) (options_equiv nat_eq_equiv)) (on_equiv (λ (d : Departure). d.day) nat_eq_equiv))

-- ---- one chain

rows_increase : (plan : Plan) (legs : List Scheduled) → IsStrictlyIncreasing (rows plan legs)
unfolding rows
rows_increase plan [] = λ k h. absurd (omega arith)
rows_increase plan (leg ∷ legs) =
    IsStrictlyIncreasing-filter (λ i. is_in_horizon plan (day_at leg i)) (range_with_len 0 (shortest (length leg.operations) legs)) (range_increases 0 (shortest (length leg.operations) legs))

pub days_back : (after : ℤ) (days : List ℕ) → map (λ o. o.day) (map (operation after) days) ≡ days
days_back after [] = refl
days_back after (d ∷ days) = ap (λ ds. d ∷ ds) (days_back after days)

pub local_back : (after : ℤ) (days : List ℕ) (i : ℕ) → i < length days
    → get_or (map (λ o. o.local) (map (operation after) days)) i 0 ≡ unsigned_abs (pos (get_or days i 0) +ℤ after)
local_back after days i inside =
    let n = length-map days (operation after) in
    get_or-map (λ o. o.local) (map (operation after) days) i (operation after 0) 0 (omega arith) ∙ ap (λ o. o.local) (get_or-map (operation after) days i 0 (operation after 0) inside)

day_is : (plan : Plan) (leg : Leg) (i : ℕ) → day_at (scheduled plan leg) i ≡ get_or (operating_days leg plan.end) i 0
unfolding scheduled
day_is plan leg i = ap (λ (ds : List ℕ). get_or ds i 0) (days_back (days_after plan.local leg) (operating_days leg plan.end))

pub operations_are : (plan : Plan) (leg : Leg)
    → length (scheduled plan leg).operations ≡ length (operating_days leg plan.end)
unfolding scheduled
operations_are plan leg = length-map (operating_days leg plan.end) (operation (days_after plan.local leg))

days_rise : (plan : Plan) (leg : Leg) (i j : ℕ) → i < j → j < length (scheduled plan leg).operations
    → day_at (scheduled plan leg) i < day_at (scheduled plan leg) j
days_rise plan leg i j below inside =
    let n = operations_are plan leg in
    let a = day_is plan leg i in
    let b = day_is plan leg j in
    let lt = below_from_sorted (operating_days leg plan.end) i j 0 (sorted_from_strictly_increasing (operating_days leg plan.end) (days_increase leg plan.end)) below (omega arith) in
    omega arith

apart : (a b : Departure) → a.day < b.day → same_departure a b ≡ false
apart a b h =
    and_right (a.number == b.number) (option_eq nat_eq a.suffix b.suffix && (a.day == b.day))
    (and_right (option_eq nat_eq a.suffix b.suffix) (a.day == b.day) (ne_eqb a.day b.day (λ e. omega arith)))

pub own_distinct : (plan : Plan) (legs : List Leg) → IsDistinct same_departure (departures_on plan (schedule plan legs))
unfolding departures_on
own_distinct plan [] = IsDistinct-from_apart same_departure [] (λ i j d below inside. absurd (omega arith))
own_distinct plan (leg ∷ legs) = IsDistinct-from_apart same_departure (map (departure (scheduled plan leg)) (rows plan (schedule plan (leg ∷ legs)))) differ
  where
    differ : (i j : ℕ) (d : Departure) → i < j
        → j < length (map (departure (scheduled plan leg)) (rows plan (schedule plan (leg ∷ legs))))
        → same_departure (get_or (map (departure (scheduled plan leg)) (rows plan (schedule plan (leg ∷ legs)))) i d)
        (get_or (map (departure (scheduled plan leg)) (rows plan (schedule plan (leg ∷ legs)))) j d) ≡ false
    differ i j d below inside =
        let n = length-map (rows plan (schedule plan (leg ∷ legs))) (departure (scheduled plan leg)) in
        let high : j < length (rows plan (schedule plan (leg ∷ legs))) = omega arith in
        let low : i < length (rows plan (schedule plan (leg ∷ legs))) = omega arith in
        let up = below_from_sorted (rows plan (schedule plan (leg ∷ legs))) i j 0 (sorted_from_strictly_increasing (rows plan (schedule plan (leg ∷ legs))) (rows_increase plan (schedule plan (leg ∷ legs)))) below high in
        let reach = rows_reach plan (schedule plan (leg ∷ legs)) j 0 high 0 (scheduled plan leg) (omega arith) in
        let rise = days_rise plan leg (get_or (rows plan (schedule plan (leg ∷ legs))) i 0) (get_or (rows plan (schedule plan (leg ∷ legs))) j 0) up reach in
        rw (get_or-map (departure (scheduled plan leg)) (rows plan (schedule plan (leg ∷ legs))) i 0 d low, get_or-map (departure (scheduled plan leg)) (rows plan (schedule plan (leg ∷ legs))) j 0 d high)
        (apart (departure (scheduled plan leg) (get_or (rows plan (schedule plan (leg ∷ legs))) i 0)) (departure (scheduled plan leg) (get_or (rows plan (schedule plan (leg ∷ legs))) j 0)) rise)

-- ---- one chain more

pub or_parts : (x y : Bool) → (x || y) ≡ false → (x ≡ false) × (y ≡ false)
or_parts true y e = absurd (true≢false e)
or_parts false y e = (refl, e)

none_of : {A : Type 0} (t : A → Bool) (xs : List A) → list_any t xs ≡ false → AllByRecursion (λ x. t x ≡ false) xs
none_of t [] e = tt
none_of t (x ∷ xs) e = let parts = or_parts (t x) (list_any t xs) e in (parts.0, none_of t xs parts.1)

-- the departures of a chain without fault are not taken
pub untaken : (taken : Departure → Bool) (plan : Plan) (chained : List Scheduled)
    → leg_one_if (list_any taken (departures_on plan chained)) chained ≡ None
    → AllByRecursion (λ d. taken d ≡ false) (departures_on plan chained)
unfolding departures_on
untaken taken plan [] none = tt
untaken taken plan (leg ∷ legs) none = by (list_any taken (departures_on plan (leg ∷ legs))) refl none
  where
    by : (b : Bool) → list_any taken (departures_on plan (leg ∷ legs)) ≡ b → cond b (Some leg.leg.serial) None ≡ None
        → AllByRecursion (λ d. taken d ≡ false) (departures_on plan (leg ∷ legs))
    by true e h = cc
    by false e h = none_of taken (departures_on plan (leg ∷ legs)) e

still_none : (x : Departure) (xs ys : List Departure) → AllByRecursion (λ y. same_departure x y ≡ false) ys
    → AllByRecursion (λ y. list_any (same_departure y) xs ≡ false) ys
    → AllByRecursion (λ y. list_any (same_departure y) (xs ++ x ∷ []) ≡ false) ys
still_none x xs [] differ none = tt
still_none x xs (y ∷ ys) differ none = (
  list_any-append (same_departure y) xs (x ∷ []) ∙ ap (λ b. b || list_any (same_departure y) (x ∷ [])) none.0 ∙ ap (λ b. b || false) (departures_equiv.symm y x ∙ differ.0),
  still_none x xs ys differ.1 none.1,
)

pub distinct_more : (xs ys : List Departure) → IsDistinct same_departure xs → IsDistinct same_departure ys
    → AllByRecursion (λ y. list_any (same_departure y) xs ≡ false) ys → IsDistinct same_departure (xs ++ ys)
distinct_more xs [] first second none = subst (λ (l : List Departure). IsDistinct same_departure l) (sym (append-nil xs)) first
distinct_more xs (y ∷ ys) first second none =
    subst (λ (l : List Departure). IsDistinct same_departure l) (append_assoc xs (y ∷ []) ys)
    (distinct_more (xs ++ y ∷ []) ys (IsDistinct-push departures_equiv xs y first none.0) (IsDistinct-tail same_departure y ys second)
    (still_none y xs ys (IsDistinct-head same_departure y ys second) none.1))

pub same_tests : {A : Type 0} (s t : A → Bool) (xs : List A) → ((x : A) → s x ≡ t x)
    → AllByRecursion (λ x. s x ≡ false) xs → AllByRecursion (λ x. t x ≡ false) xs
same_tests s t [] same all = tt
same_tests s t (x ∷ xs) same all = (sym (same x) ∙ all.0, same_tests s t xs same all.1)
