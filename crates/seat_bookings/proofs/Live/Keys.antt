-- Bookings by their keys.
use Rattle.std.proofs.Common.{◌≡◌, ◌==◌, ◌&&◌, nat_eq, ℕ, Bool, true, false, List, [], ◌∷◌, ◌++◌, cond, Some, None, if◌then◌else◌, arith, refl, sym, subst, ◌∙◌}
use Rattle.seat_bookings.proofs.Common.{AllByRecursion, Place, Booking, Key, is_for, key_for, key_of, same_key, number_of}
use Rattle.std.specs.Cmp.Lexicographic.{pointwise}
use Rattle.std.proofs.lemmas.Bool.Decides.{nat_tests}
use Rattle.seat_rules.specs.Bookings.{Differs, IsApart}
use Rattle.seat_rules.proofs.History.Faults.{nat_same}
use Rattle.seat_rules.proofs.Step.Apart.{letters_same}
use Rattle.airline_base.proofs.Tests.{both_true}

-- ---- keys that are equal
letters_is : (xs ys : List ℕ) → pointwise nat_eq xs ys ≡ true → xs ≡ ys
letters_is [] [] e = refl
letters_is [] (y ∷ ys) e = absurd cc
letters_is (x ∷ xs) [] e = absurd cc
letters_is (x ∷ xs) (y ∷ ys) e =
    let h = both_true (nat_eq x y) (pointwise nat_eq xs ys) e in
    λ i. nat_same x y h.0 i ∷ letters_is xs ys h.1 i

number_itself : (n : ℕ) → (n == n) ≡ true
number_itself n = grind (arith, nat_tests)

pub key_is : (a b : Key) → same_key a b ≡ true → a ≡ b
key_is a b e =
    let p = both_true (pointwise nat_eq a.locator b.locator) ((a.flight == b.flight) && ((a.from == b.from) && ((a.to == b.to) && (a.class == b.class)))) e in
    let q = both_true (a.flight == b.flight) ((a.from == b.from) && ((a.to == b.to) && (a.class == b.class))) p.1 in
    let r = both_true (a.from == b.from) ((a.to == b.to) && (a.class == b.class)) q.1 in
    let s = both_true (a.to == b.to) (a.class == b.class) r.1 in
    key (letters_is a.locator b.locator p.0) (nat_same a.flight b.flight q.0) (nat_same a.from b.from r.0) (nat_same a.to b.to s.0) (nat_same a.class b.class s.1)
  where
    key : a.locator ≡ b.locator → a.flight ≡ b.flight → a.from ≡ b.from → a.to ≡ b.to → a.class ≡ b.class → a ≡ b
    key l f g t c = λ i. record { locator = l i; flight = f i; from = g i; to = t i; class = c i }

pub key_itself : (a : Key) → same_key a a ≡ true
key_itself a = rw (letters_same a.locator, number_itself a.flight, number_itself a.from, number_itself a.to, number_itself a.class) refl

regroup : (a b c d e : Bool) → (((a && ((b && c) && d)) && e)) ≡ (a && (b && (c && (d && e))))
regroup false b c d e = refl
regroup true false c d e = refl
regroup true true false d e = refl
regroup true true true false e = refl
regroup true true true true e = refl

pub is_for_key : (l : List ℕ) (p : Place) (k : ℕ) (b : Booking) → is_for l p k b ≡ same_key (key_of b) (key_for l p k)
is_for_key l p k b = regroup (pointwise nat_eq b.locator l) (b.place.flight == p.flight) (b.place.from == p.from) (b.place.to == p.to) (b.class == k)

-- ---- the number of a key's booking
pub no_number : (l : List ℕ) (p : Place) (k : ℕ) (bs : List Booking) → number_of (key_for l p k) bs ≡ None
    → AllByRecursion (λ b. is_for l p k b ≡ false) bs
no_number l p k [] e = tt
no_number l p k (b ∷ bs) e = cases (same_key (key_of b) (key_for l p k)) refl e (no_number l p k bs) where
  cases : (t : Bool) → same_key (key_of b) (key_for l p k) ≡ t
      → cond t (Some b.number) (number_of (key_for l p k) bs) ≡ None
      → (number_of (key_for l p k) bs ≡ None → AllByRecursion (λ x. is_for l p k x ≡ false) bs)
      → AllByRecursion (λ x. is_for l p k x ≡ false) (b ∷ bs)
  cases true is e rest = absurd cc
  cases false is e rest = (is_for_key l p k b ∙ is, rest e)

pub number_none : (key : Key) (bs : List Booking) → AllByRecursion (λ (b : Booking). same_key (key_of b) key ≡ false) bs
    → number_of key bs ≡ None
number_none key [] a = refl
number_none key (b ∷ bs) a = rw (a.0) (number_none key bs a.1)

-- the last is of another key than those before it
last_differs : (x : Booking) (xs : List Booking) (b : Booking) → AllByRecursion (Differs x) (xs ++ b ∷ []) → Differs x b
last_differs x [] b a = a.0
last_differs x (y ∷ xs) b a = last_differs x xs b a.1

pub apart_keys : (x b : Booking) (key : Key) → Differs x b → same_key (key_of x) key ≡ true
    → same_key (key_of b) key ≡ false
apart_keys x b key differs is = cases (same_key (key_of b) key) refl where
  cases : (t : Bool) → same_key (key_of b) key ≡ t → same_key (key_of b) key ≡ false
  cases true e =
      let same : key_of x ≡ key_of b = key_is (key_of x) key is ∙ sym (key_is (key_of b) key e) in
      let P : Key → Type 0 = λ k. same_key (key_of x) k ≡ true in
      let yes : is_for b.locator b.place b.class x ≡ true = is_for_key b.locator b.place b.class x ∙ subst P same (key_itself (key_of x)) in
      absurd cc
  cases false e = e

pub number_more : (key : Key) (bs : List Booking) (b : Booking) → IsApart (bs ++ b ∷ [])
    → number_of key (bs ++ b ∷ []) ≡ (if same_key (key_of b) key then Some b.number else number_of key bs)
number_more key [] b apart = refl
number_more key (x ∷ xs) b apart = cases (same_key (key_of x) key) refl (number_more key xs b apart.1) where
  cases : (t : Bool) → same_key (key_of x) key ≡ t
      → number_of key (xs ++ b ∷ []) ≡ (if same_key (key_of b) key then Some b.number else number_of key xs)
      → number_of key (x ∷ (xs ++ b ∷ [])) ≡ (if same_key (key_of b) key then Some b.number else number_of key (x ∷ xs))
  cases true e rest = let other = apart_keys x b key (last_differs x xs b apart.0) e in rw (e, other) refl
  cases false e rest = rw (e, rest) refl
