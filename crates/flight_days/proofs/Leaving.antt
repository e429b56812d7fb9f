-- A flight that is not listed for a day serves nothing that is wanted on it.
use Rattle.std.proofs.Common.{◌≡◌, ℕ, suc, zero, ◌+◌, ◌<◌, ◌&&◌, ◌||◌, ◌==◌, nat_eq, Bool, true, false, cond, List, [], ◌∷◌, ◌++◌, length, get_or, arith, refl, sym, ap, subst, ◌∙◌, Option, Some, None, inl, inr}
use Rattle.std.specs.Prelude.{◌⊎◌, slice_get}
use Rattle.std.specs.List.{AllByRecursion}
use Rattle.std.specs.Option.{option_eq, option_or}
use Rattle.std.specs.Map.{lookup}
use Rattle.std.specs.Cmp.Lexicographic.{pointwise}
use Rattle.std.proofs.lemmas.Bool.{true≢false, eqb-true, eq-eqb}
use Rattle.airline_base.specs.declared.place.Place.{Place}
use Rattle.ssim_flights.specs.declared.flight.DatedLeg.{DatedLeg}
use Rattle.ssim_flights.specs.declared.flight.Flight.{Flight}
use Rattle.ssim_flights.specs.declared.flight.Wanted.{Wanted}
use Rattle.ssim_flights.specs.Places.{ends_from, places, place, places_from, place_wanted, same_wanted, wish}
use Rattle.flight_days.specs.declared.day_flights.DayFlights.{DayFlights}
use Rattle.flight_days.specs.Leaving.{flights_in, in_list, list_of, listed, number_if, AreDaysOf}

-- the place is on flight m of these, counted from flight n, which is in the list
record IsListed (n : ℕ) (flights : List Flight) (k : ℕ) (p : Place) : Type 0 where
  pub m : ℕ
  pub flown : Flight
  pub at : slice_get flights m ≡ Some flown
  pub is : p.flight ≡ n + m
  pub leaves : in_list flown.legs k ≡ true

some_is : (p q : Place) → Some p ≡ Some q → p ≡ q
some_is p q e = cc

-- the first of these legs departs on the day that is wanted
day_is : (a n s d r : Bool) → (a && (n && (s && (d && r)))) ≡ true → d ≡ true
day_is true true true true r e = refl
day_is true true true false r e = absurd (true≢false (sym e))
day_is true true false d r e = absurd (true≢false (sym e))
day_is true false s d r e = absurd (true≢false (sym e))
day_is false n s d r e = absurd (true≢false (sym e))

wish_day : (flight : Flight) (first last : DatedLeg) (w : Wanted) → same_wanted (wish flight first last) w ≡ true
    → (first.day == w.day) ≡ true
wish_day flight first last w e =
    day_is (pointwise nat_eq flight.airline w.airline) (flight.number == w.number) (option_eq nat_eq flight.suffix w.suffix)
    (first.day == w.day) (pointwise nat_eq first.board w.board && pointwise nat_eq last.off w.off) e

ends_day : (flight : Flight) (n from : ℕ) (first : DatedLeg) (to : ℕ) (legs : List DatedLeg) (w : Wanted) (p : Place)
    → lookup (λ v. same_wanted v w) (ends_from flight n from first to legs) ≡ Some p
    → (p.flight ≡ n) × ((first.day == w.day) ≡ true)
ends_day flight n from first to [] w p e = absurd (none p e)
  where
    none : (q : Place) → None ≡ Some q → ⊥
    none q h = cc
ends_day flight n from first to (leg ∷ legs) w p e =
    by (ends_day flight n from first (to + 1) legs w p) (same_wanted (wish flight first leg) w) refl e
  where
    by : (lookup (λ v. same_wanted v w) (ends_from flight n from first (to + 1) legs) ≡ Some p → (p.flight ≡ n) × ((first.day == w.day) ≡ true))
        → (t : Bool) → same_wanted (wish flight first leg) w ≡ t
        → lookup (λ v. same_wanted v w) (ends_from flight n from first to (leg ∷ legs)) ≡ Some p
        → (p.flight ≡ n) × ((first.day == w.day) ≡ true)
    by rest true is h =
        let here : Some (place n from to) ≡ Some p = rw is at h in
        (ap (λ (q : Place). q.flight) (sym (some_is (place n from to) p here)), wish_day flight first leg w is)
    by rest false is h = rest (rw is at h)

or_cond : {A : Type 0} (b : Bool) (x : A) (o p : Option A)
    → option_or (cond b (Some x) o) p ≡ cond b (Some x) (option_or o p)
or_cond true x o p = refl
or_cond false x o p = refl

lookup_append : {K X : Type 0} (test : K → Bool) (xs ys : List (K × X))
    → lookup test (xs ++ ys) ≡ option_or (lookup test xs) (lookup test ys)
lookup_append test [] ys = refl
lookup_append test (e ∷ xs) ys = ap (λ o. cond (test e.0) (Some e.1) o) (lookup_append test xs ys) ∙ sym (or_cond (test e.0) e.1 (lookup test xs) (lookup test ys))

either : (a b : Option Place) (p : Place) → option_or a b ≡ Some p → (a ≡ Some p) ⊎ (b ≡ Some p)
either None b p e = inr e
either (Some q) b p e = inl e

or_true : (b c : Bool) → c ≡ true → (b || c) ≡ true
or_true true c e = refl
or_true false c e = e

leaves_first : (leg : DatedLeg) (legs : List DatedLeg) (day : ℕ) → (leg.day == day) ≡ true
    → in_list (leg ∷ legs) (list_of day) ≡ true
leaves_first leg legs day e =
    ap (λ (t : Bool). t || in_list legs (list_of day)) (eq-eqb (list_of leg.day) (list_of day) (ap list_of (eqb-true leg.day day e)))

from_day : (flight : Flight) (n from : ℕ) (legs : List DatedLeg) (w : Wanted) (p : Place)
    → lookup (λ v. same_wanted v w) (places_from flight n from legs) ≡ Some p
    → (p.flight ≡ n) × (in_list legs (list_of w.day) ≡ true)
from_day flight n from [] w p e = absurd (none p e)
  where
    none : (q : Place) → None ≡ Some q → ⊥
    none q h = cc
from_day flight n from (leg ∷ legs) w p e =
    by (from_day flight n (from + 1) legs w p)
    (either (lookup (λ v. same_wanted v w) (ends_from flight n from leg from (leg ∷ legs))) (lookup (λ v. same_wanted v w) (places_from flight n (from + 1) legs)) p
    (sym (lookup_append (λ v. same_wanted v w) (ends_from flight n from leg from (leg ∷ legs)) (places_from flight n (from + 1) legs)) ∙ e))
  where
    by : (lookup (λ v. same_wanted v w) (places_from flight n (from + 1) legs) ≡ Some p → (p.flight ≡ n) × (in_list legs (list_of w.day) ≡ true))
        → (lookup (λ v. same_wanted v w) (ends_from flight n from leg from (leg ∷ legs)) ≡ Some p)
        ⊎ (lookup (λ v. same_wanted v w) (places_from flight n (from + 1) legs) ≡ Some p)
        → (p.flight ≡ n) × (in_list (leg ∷ legs) (list_of w.day) ≡ true)
    by rest (inl h) =
        let here = ends_day flight n from leg from (leg ∷ legs) w p h in (here.0, leaves_first leg legs w.day here.1)
    by rest (inr h) =
        let there = rest h in (there.0, or_true (list_of leg.day == list_of w.day) (in_list legs (list_of w.day)) there.1)

is_listed : (n : ℕ) (flights : List Flight) (w : Wanted) (p : Place)
    → lookup (λ v. same_wanted v w) (places n flights) ≡ Some p → IsListed n flights (list_of w.day) p
is_listed n [] w p e = absurd (none p e)
  where
    none : (q : Place) → None ≡ Some q → ⊥
    none q h = cc
is_listed n (flight ∷ flights) w p e =
    by (is_listed (n + 1) flights w p)
    (either (lookup (λ v. same_wanted v w) (places_from flight n 0 flight.legs)) (lookup (λ v. same_wanted v w) (places (n + 1) flights)) p
    (sym (lookup_append (λ v. same_wanted v w) (places_from flight n 0 flight.legs) (places (n + 1) flights)) ∙ e))
  where
    by : (lookup (λ v. same_wanted v w) (places (n + 1) flights) ≡ Some p → IsListed (n + 1) flights (list_of w.day) p)
        → (lookup (λ v. same_wanted v w) (places_from flight n 0 flight.legs) ≡ Some p)
        ⊎ (lookup (λ v. same_wanted v w) (places (n + 1) flights) ≡ Some p)
        → IsListed n (flight ∷ flights) (list_of w.day) p
    by rest (inl h) =
        let here = from_day flight n 0 flight.legs w p h in
        record { m = 0; flown = flight; at = refl; is = let e0 : n + 0 ≡ n = omega arith in here.0 ∙ sym e0; leaves = here.1 }
    by rest (inr h) =
        let there = rest h in
        let next : n + suc there.m ≡ n + 1 + there.m = omega arith in
        record { m = suc there.m; flown = there.flown; at = there.at; is = there.is ∙ sym next; leaves = there.leaves }

some_same : (a b : Flight) → Some a ≡ Some b → a ≡ b
some_same a b e = cc

-- a place that is found for a day is on a flight that leaves on it
pub found_leaves : (flights : List Flight) (w : Wanted) (p : Place) (flight : Flight) → place_wanted flights w ≡ Some p
    → slice_get flights p.flight ≡ Some flight → in_list flight.legs (list_of w.day) ≡ true
unfolding place_wanted
found_leaves flights w p flight found at =
    let there = is_listed 0 flights w p found in
    let number : p.flight ≡ there.m = let e = there.is in omega arith in
    let same : flight ≡ there.flown = some_same flight there.flown (sym at ∙ ap (slice_get flights) number ∙ there.at) in
    ap (λ (f : Flight). in_list f.legs (list_of w.day)) same ∙ there.leaves

-- ---- the numbers that are listed

inside_from : (n k : ℕ) (flights : List Flight) → AllByRecursion (λ i. i < n + length flights) (flights_in n flights k)
inside_from n k [] = tt
inside_from n k (flight ∷ flights) = by (in_list flight.legs k) (inside_from (n + 1) k flights)
  where
    wider : (xs : List ℕ) → AllByRecursion (λ i. i < n + 1 + length flights) xs → AllByRecursion (λ i. i < n + suc (length flights)) xs
    wider [] all = tt
    wider (x ∷ xs) all = (let e = all.0 in omega arith, wider xs all.1)

    by : (t : Bool) → AllByRecursion (λ i. i < n + 1 + length flights) (flights_in (n + 1) flights k)
        → AllByRecursion (λ i. i < n + suc (length flights)) (number_if t n ++ flights_in (n + 1) flights k)
    by true all = (omega arith, wider (flights_in (n + 1) flights k) all)
    by false all = wider (flights_in (n + 1) flights k) all

read_all : (P : ℕ → Type 0) (xs : List ℕ) → AllByRecursion P xs → (j d : ℕ) → j < length xs → P (get_or xs j d)
read_all P [] all j d lt = absurd (omega arith)
read_all P (x ∷ xs) all zero d lt = all.0
read_all P (x ∷ xs) all (suc j) d lt = read_all P xs all.1 j d (omega arith)

-- each of them is a flight's
pub listed_inside : (days : DayFlights) (flights : List Flight) (day : ℕ) (numbers : List ℕ) (j : ℕ) → AreDaysOf days flights
    → numbers ≡ listed days day → j < length numbers → get_or numbers j 0 < length flights
listed_inside days flights day numbers j are is lt =
    let all : AllByRecursion (λ x. x < 0 + length flights) numbers =
    subst (λ (l : List ℕ). AllByRecursion (λ x. x < 0 + length flights) l) (sym (is ∙ are.at (list_of day))) (inside_from 0 (list_of day) flights) in
    let one : get_or numbers j 0 < 0 + length flights = read_all (λ x. x < 0 + length flights) numbers all j 0 lt in
    omega arith
