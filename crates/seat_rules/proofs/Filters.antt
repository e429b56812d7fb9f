-- The elements of a list that pass a test.
use Rattle.std.proofs.Common.{◌≡◌, ℕ, ◌+◌, ◌<◌, ◌≤◌, Bool, true, false, ◌&&◌, List, [], ◌∷◌, length, filter, arith, refl}
use Rattle.seat_rules.proofs.Common.{AllByRecursion, sum_by, Booking}
use Rattle.std.proofs.lemmas.List.Sums.{sum_by-cons, length-filter, count_by-le-length}
use Rattle.seat_rules.specs.Applying.{IsOrdered}
use Rattle.seat_rules.specs.Bookings.{Differs, IsApart}

module _ {X : Type 0} (p : X → Bool) where
  -- they are no more
  pub few_pass : (xs : List X) → length (filter p xs) ≤ length xs
  few_pass xs = omega (arith, length-filter p xs, count_by-le-length p xs)

  -- they have what all have
  pub all_pass : (P : X → Type 0) (xs : List X) → AllByRecursion P xs → AllByRecursion P (filter p xs)
  all_pass P [] a = tt
  all_pass P (x ∷ xs) a = cases (p x) refl (all_pass P xs a.1) where
    cases : (t : Bool) → p x ≡ t → AllByRecursion P (filter p xs) → AllByRecursion P (filter p (x ∷ xs))
    cases true e rest = rw e (a.0, rest)
    cases false e rest = rw e rest

  -- and what a test that passes says
  pub each_passes : (P : X → Type 0) → ((x : X) → p x ≡ true → P x) → (xs : List X) → AllByRecursion P (filter p xs)
  each_passes P says [] = tt
  each_passes P says (x ∷ xs) = cases (p x) refl (each_passes P says xs) where
    cases : (t : Bool) → p x ≡ t → AllByRecursion P (filter p xs) → AllByRecursion P (filter p (x ∷ xs))
    cases true e rest = rw e (says x e, rest)
    cases false e rest = rw e rest

  -- their sum is no more
  pub sum_pass : (f : X → ℕ) (xs : List X) → sum_by f (filter p xs) ≤ sum_by f xs
  sum_pass f [] = omega arith
  sum_pass f (x ∷ xs) = cases (p x) refl (sum_pass f xs) where
    cases : (t : Bool) → p x ≡ t → sum_by f (filter p xs) ≤ sum_by f xs
        → sum_by f (filter p (x ∷ xs)) ≤ sum_by f (x ∷ xs)
    cases true e rest = rw e (omega (arith, rest, sum_by-cons f x (filter p xs), sum_by-cons f x xs))
    cases false e rest = rw e (omega (arith, rest, sum_by-cons f x xs))

  -- and no less, where the others weigh nothing
  pub sum_kept : (f : X → ℕ) → ((x : X) → p x ≡ false → f x ≡ 0) → (xs : List X) → sum_by f (filter p xs) ≡ sum_by f xs
  sum_kept f light [] = refl
  sum_kept f light (x ∷ xs) = cases (p x) refl (sum_kept f light xs) where
    cases : (t : Bool) → p x ≡ t → sum_by f (filter p xs) ≡ sum_by f xs
        → sum_by f (filter p (x ∷ xs)) ≡ sum_by f (x ∷ xs)
    cases true e rest = rw e (omega (arith, rest, sum_by-cons f x (filter p xs), sum_by-cons f x xs))
    cases false e rest = rw e (omega (arith, rest, light x e, sum_by-cons f x xs))

-- bookings stay in order
pub ordered_pass : (p : Booking → Bool) (bs : List Booking) → IsOrdered bs → IsOrdered (filter p bs)
ordered_pass p [] o = tt
ordered_pass p (b ∷ bs) o = cases (p b) refl (ordered_pass p bs o.1) where
  cases : (t : Bool) → p b ≡ t → IsOrdered (filter p bs) → IsOrdered (filter p (b ∷ bs))
  cases true e rest = rw e (all_pass p (λ x. b.number < x.number) bs o.0, rest)
  cases false e rest = rw e rest

-- and apart
pub apart_pass : (p : Booking → Bool) (bs : List Booking) → IsApart bs → IsApart (filter p bs)
apart_pass p [] o = tt
apart_pass p (b ∷ bs) o = cases (p b) refl (apart_pass p bs o.1) where
  cases : (t : Bool) → p b ≡ t → IsApart (filter p bs) → IsApart (filter p (b ∷ bs))
  cases true e rest = rw e (all_pass p (Differs b) bs o.0, rest)
  cases false e rest = rw e rest

-- three tests in the other order
pub turned : (a b c : Bool) → (a && b && c) ≡ (c && b && a)
turned true true true = refl
turned true true false = refl
turned true false true = refl
turned true false false = refl
turned false true true = refl
turned false true false = refl
turned false false true = refl
turned false false false = refl
