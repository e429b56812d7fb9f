-- No leg is asked for twice.
use Rattle.std.proofs.Common.{◌≡◌, ◌==◌, ◌&&◌, ℕ, zero, suc, ◌+◌, Option, Some, subst, ◌≤◌, Bool, true, false, List, [], ◌∷◌, ◌++◌, arith, if◌then◌else◌, refl, sym, ap, ◌∙◌}
use Rattle.std.specs.List.{AllByRecursion, slice_get}
use Rattle.std.proofs.lemmas.Bool.{and_parts, eqb-true}
use Rattle.ssim_flights.specs.declared.flight.DatedLeg.{DatedLeg}
use Rattle.ssim_flights.specs.declared.flight.Flight.{Flight as Flown}
use Rattle.seat_lists.specs.Picking.{keeps_flight}
use Rattle.limit_changes.specs.Legs.{each_from, every_leg, is_chosen, kept_leg, kept_on, legs_by, legs_on, named_alone, named_leg}
use Rattle.limit_changes.specs.declared.legs.LegsAsked.{LegsAsked}
use Rattle.limit_changes.specs.declared.legs.NamedLeg.{NamedLeg}
use Rattle.limit_changes.proofs.Walking.{AreApart, is_at}

-- ---- what holds of each

module _ {A : Type 0} where
  pub all_more : (P : A → Type 0) (xs ys : List A) → AllByRecursion P xs → AllByRecursion P ys → AllByRecursion P (xs ++ ys)
  all_more P [] ys a b = b
  all_more P (x ∷ xs) ys a b = (a.0, all_more P xs ys a.1 b)

  pub all_so : (P Q : A → Type 0) → ((x : A) → P x → Q x) → (xs : List A) → AllByRecursion P xs → AllByRecursion Q xs
  all_so P Q so [] a = tt
  all_so P Q so (x ∷ xs) a = (so x a.0, all_so P Q so xs a.1)

module _ {A B : Type 0} where
  all_from : (P : B → Type 0) (part : ℕ → A → List B) → ((i : ℕ) (x : A) → AllByRecursion P (part i x)) → (n : ℕ) (xs : List A)
      → AllByRecursion P (each_from part n xs)
  all_from P part each n [] = tt
  all_from P part each n (x ∷ xs) = all_more P (part n x) (each_from part (n + 1) xs) (each n x) (all_from P part each (n + 1) xs)

-- whatever tells two legs apart
differ : (tag : NamedLeg → ℕ) (a b : NamedLeg) → ((f l : ℕ) → is_at f l b ≡ true → f ≡ a.flight → l ≡ a.leg → tag a ≡ tag b)
    → (tag a ≡ tag b → ⊥) → is_at a.flight a.leg b ≡ false
differ tag a b same never = cases (is_at a.flight a.leg b) refl where
  cases : (t : Bool) → is_at a.flight a.leg b ≡ t → is_at a.flight a.leg b ≡ false
  cases true e = absurd (never (same a.flight a.leg e refl refl))
  cases false e = e

-- two numbers by which legs differ: of the flight, and of the leg
by_flight : (a b : NamedLeg) (f l : ℕ) → is_at f l b ≡ true → f ≡ a.flight → l ≡ a.leg → a.flight ≡ b.flight
by_flight a b f l e flight leg = sym flight ∙ sym (eqb-true b.flight f (and_parts (b.flight == f) (b.leg == l) e).0)

by_leg : (a b : NamedLeg) (f l : ℕ) → is_at f l b ≡ true → f ≡ a.flight → l ≡ a.leg → a.leg ≡ b.leg
by_leg a b f l e flight leg = sym leg ∙ sym (eqb-true b.leg l (and_parts (b.flight == f) (b.leg == l) e).1)

apart_more : (xs ys : List NamedLeg) → AreApart xs → AreApart ys
    → AllByRecursion (λ x. AllByRecursion (λ y. is_at x.flight x.leg y ≡ false) ys) xs → AreApart (xs ++ ys)
apart_more [] ys a b c = b
apart_more (x ∷ xs) ys a b c = (all_more (λ y. is_at x.flight x.leg y ≡ false) xs ys a.0 c.0, apart_more xs ys a.1 b c.1)

-- parts that a number of their legs tells apart
module _ {A : Type 0} (tag : NamedLeg → ℕ) (same : (a b : NamedLeg) (f l : ℕ) → is_at f l b ≡ true → f ≡ a.flight → l ≡ a.leg → tag a ≡ tag b)
    (part : ℕ → A → List NamedLeg) (apart : (i : ℕ) (x : A) → AreApart (part i x))
    (tagged : (i : ℕ) (x : A) → AllByRecursion (λ k. tag k ≡ i) (part i x)) where
  from_here : (n : ℕ) (xs : List A) → AllByRecursion (λ k. n ≤ tag k) (each_from part n xs)
  from_here n [] = tt
  from_here n (x ∷ xs) =
      all_more (λ k. n ≤ tag k) (part n x) (each_from part (n + 1) xs)
      (all_so (λ k. tag k ≡ n) (λ k. n ≤ tag k) (λ (k : NamedLeg) (e : tag k ≡ n). omega (arith, e)) (part n x) (tagged n x))
      (all_so (λ k. n + 1 ≤ tag k) (λ k. n ≤ tag k) (λ (k : NamedLeg) (e : n + 1 ≤ tag k). omega (arith, e)) (each_from part (n + 1) xs) (from_here (n + 1) xs))

  below : (n : ℕ) (a b : NamedLeg) → tag a ≡ n → n + 1 ≤ tag b → tag a ≡ tag b → ⊥
  below n a b here there e = omega (arith, here, there, e)

  pub each_apart : (n : ℕ) (xs : List A) → AreApart (each_from part n xs)
  each_apart n [] = tt
  each_apart n (x ∷ xs) =
      apart_more (part n x) (each_from part (n + 1) xs) (apart n x) (each_apart (n + 1) xs)
      (all_so (λ k. tag k ≡ n) (λ k. AllByRecursion (λ y. is_at k.flight k.leg y ≡ false) (each_from part (n + 1) xs)) others (part n x) (tagged n x))
    where
      others : (k : NamedLeg) → tag k ≡ n → AllByRecursion (λ y. is_at k.flight k.leg y ≡ false) (each_from part (n + 1) xs)
      others k e =
          all_so (λ y. n + 1 ≤ tag y) (λ y. is_at k.flight k.leg y ≡ false) (λ (y : NamedLeg) (le : n + 1 ≤ tag y). differ tag k y (same k y) (below n k y e le))
          (each_from part (n + 1) xs) (from_here (n + 1) xs)

-- ---- the legs of a flight, and of all

module _ (named : Bool) (all : List Flown) (asked : LegsAsked) where
  leg_all : (P : NamedLeg → Type 0) (i : ℕ) (flight : Flown) (j : ℕ) (leg : DatedLeg) → P (named_leg i flight j leg)
      → AllByRecursion P (kept_leg named all asked i flight j leg)
  leg_all P i flight j leg is = cases (is_chosen named all asked i flight j leg) where
    cases : (b : Bool) → AllByRecursion P (if b then named_leg i flight j leg ∷ [] else [])
    cases true = (is, tt)
    cases false = tt

  leg_apart : (i : ℕ) (flight : Flown) (j : ℕ) (leg : DatedLeg) → AreApart (kept_leg named all asked i flight j leg)
  leg_apart i flight j leg = cases (is_chosen named all asked i flight j leg) where
    cases : (b : Bool) → AreApart (if b then named_leg i flight j leg ∷ [] else [])
    cases true = (tt, tt)
    cases false = tt

  flight_all : (i : ℕ) (flight : Flown) → AllByRecursion (λ k. k.flight ≡ i) (kept_on named all asked i flight)
  flight_all i flight = cases (keeps_flight asked.flight flight) where
    cases : (b : Bool) → AllByRecursion (λ k. k.flight ≡ i) (if b then each_from (kept_leg named all asked i flight) 0 flight.legs else [])
    cases true = all_from (λ k. k.flight ≡ i) (kept_leg named all asked i flight) (λ (j : ℕ) (leg : DatedLeg). leg_all (λ k. k.flight ≡ i) i flight j leg refl) 0 flight.legs
    cases false = tt

  flight_apart : (i : ℕ) (flight : Flown) → AreApart (kept_on named all asked i flight)
  flight_apart i flight = cases (keeps_flight asked.flight flight) where
    cases : (b : Bool) → AreApart (if b then each_from (kept_leg named all asked i flight) 0 flight.legs else [])
    cases true =
        each_apart (λ k. k.leg) by_leg (kept_leg named all asked i flight) (leg_apart i flight)
        (λ (j : ℕ) (leg : DatedLeg). leg_all (λ k. k.leg ≡ j) i flight j leg refl) 0 flight.legs
    cases false = tt

  pub kept_apart : (flights : List Flown) → AreApart (legs_by named all asked flights)
  kept_apart flights = each_apart (λ k. k.flight) by_flight (kept_on named all asked) flight_apart flight_all 0 flights

-- ---- all legs

pub every_apart : (flights : List Flown) → AreApart (every_leg flights)
every_apart flights = each_apart (λ k. k.flight) by_flight legs_on on_apart on_all 0 flights where
  alone_apart : (i : ℕ) (flight : Flown) (j : ℕ) (leg : DatedLeg) → AreApart (named_alone i flight j leg)
  alone_apart i flight j leg = (tt, tt)

  on_apart : (i : ℕ) (flight : Flown) → AreApart (legs_on i flight)
  on_apart i flight =
      each_apart (λ k. k.leg) by_leg (named_alone i flight) (alone_apart i flight)
      (λ (j : ℕ) (leg : DatedLeg). (refl, tt)) 0 flight.legs

  on_all : (i : ℕ) (flight : Flown) → AllByRecursion (λ k. k.flight ≡ i) (legs_on i flight)
  on_all i flight = all_from (λ k. k.flight ≡ i) (named_alone i flight) (λ (j : ℕ) (leg : DatedLeg). (refl, tt)) 0 flight.legs

-- what holds of each item's part holds of the part of one
module _ {A B : Type 0} (P : B → Type 0) (part : ℕ → A → List B) where
  all_front : (xs ys : List B) → AllByRecursion P (xs ++ ys) → AllByRecursion P xs × AllByRecursion P ys
  all_front [] ys all = (tt, all)
  all_front (x ∷ xs) ys all = let rest = all_front xs ys all.1 in ((all.0, rest.0), rest.1)

  pub part_all : (n i : ℕ) (xs : List A) (x : A) → slice_get xs i ≡ Some x → AllByRecursion P (each_from part n xs)
      → AllByRecursion P (part (n + i) x)
  part_all n i [] x at all = absurd cc
  part_all n zero (y ∷ xs) x at all =
      let same : y ≡ x = cc in
      let whole : n + 0 ≡ n = omega arith in
      rw whole (subst (λ (z : A). AllByRecursion P (part n z)) same (all_front (part n y) (each_from part (n + 1) xs) all).0)
  part_all n (suc i) (y ∷ xs) x at all =
      let next : n + 1 + i ≡ n + suc i = omega arith in
      subst (λ (m : ℕ). AllByRecursion P (part m x)) next (part_all (n + 1) i xs x at (all_front (part n y) (each_from part (n + 1) xs) all).1)

-- what holds of all legs holds of leg j of flight i
pub every_at : (P : NamedLeg → Type 0) (flights : List Flown) (i j : ℕ) (flight : Flown) (leg : DatedLeg) → slice_get flights i ≡ Some flight
    → slice_get flight.legs j ≡ Some leg → AllByRecursion P (every_leg flights) → P (named_leg i flight j leg)
every_at P flights i j flight leg at_flight at_leg all =
    let here : 0 + i ≡ i = omega arith in
    let there : 0 + j ≡ j = omega arith in
    let on : AllByRecursion P (legs_on i flight) =
    subst (λ (n : ℕ). AllByRecursion P (legs_on n flight)) here (part_all P legs_on 0 i flights flight at_flight all) in
    let alone : AllByRecursion P (named_alone i flight j leg) =
    subst (λ (n : ℕ). AllByRecursion P (named_alone i flight n leg)) there (part_all P (named_alone i flight) 0 j flight.legs leg at_leg on) in
    alone.0
