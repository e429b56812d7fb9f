-- A booking that loses seats, by its index.
use Rattle.std.proofs.Common.{◌≡◌, ℕ, zero, suc, ◌-◌, ◌<◌, ◌≤◌, Bool, true, false, nat_le, List, [], ◌∷◌, length, get_or, set, remove, Some, position, arith, refl, ap, sym, ◌∙◌}
use Rattle.seat_rules.proofs.Common.{Booking, reduced}
use Rattle.std.proofs.lemmas.Bool.Decides.{nat_tests}
use Rattle.std.proofs.lemmas.List.Quantifiers.{position-Some}

-- the booking at i is the first that passes the test
abbrev pub IsFirst : (Booking → Bool) → List Booking → ℕ → Booking → Type 0
IsFirst test xs i d = (i < length xs) × (test (get_or xs i d) ≡ true) × ((k : ℕ) → k < i → test (get_or xs k d) ≡ false)

pub reduced_remove : (test : Booking → Bool) (n : ℕ) (xs : List Booking) (i : ℕ) (d : Booking) → IsFirst test xs i d
    → (get_or xs i d).seats ≤ n → reduced test n xs ≡ remove xs i
reduced_remove test n [] i d first le = absurd (omega (arith, first.0))
reduced_remove test n (x ∷ xs) zero d first le =
    let all : nat_le x.seats n ≡ true = grind (arith, nat_tests) in
    rw (first.1, all) refl
reduced_remove test n (x ∷ xs) (suc i) d first le =
    let below : i < length xs = omega (arith, first.0) in
    let rest = reduced_remove test n xs i d (below, first.1, λ k h. first.2 (suc k) (omega arith)) le in
    let other : test x ≡ false = first.2 zero (omega arith) in
    rw (other, rest) refl

pub reduced_set : (test : Booking → Bool) (n : ℕ) (xs : List Booking) (i : ℕ) (d : Booking) → IsFirst test xs i d
    → n < (get_or xs i d).seats
    → reduced test n xs ≡ set xs i (record (get_or xs i d) { seats = (get_or xs i d).seats - n })
reduced_set test n [] i d first lt = absurd (omega (arith, first.0))
reduced_set test n (x ∷ xs) zero d first lt =
    let part : nat_le x.seats n ≡ false = grind (arith, nat_tests) in
    rw (first.1, part) refl
reduced_set test n (x ∷ xs) (suc i) d first lt =
    let below : i < length xs = omega (arith, first.0) in
    let rest = reduced_set test n xs i d (below, first.1, λ k h. first.2 (suc k) (omega arith)) lt in
    let other : test x ≡ false = first.2 zero (omega arith) in
    rw (other, rest) refl

pub reduced_gone : (test : Booking → Bool) (n : ℕ) (xs : List Booking) (i : ℕ) (b : Booking) → position test xs ≡ Some i
    → b ≡ get_or xs i b → b.seats ≤ n → reduced test n xs ≡ remove xs i
reduced_gone test n xs i b found is le = reduced_remove test n xs i b (position-Some test xs i b found) (rw (← is) le)

pub reduced_less : (test : Booking → Bool) (n : ℕ) (xs : List Booking) (i : ℕ) (b : Booking) → position test xs ≡ Some i
    → b ≡ get_or xs i b → n < b.seats
    → reduced test n xs ≡ set xs i (record b { seats = b.seats - n })
reduced_less test n xs i b found is lt =
    let part : n < (get_or xs i b).seats = rw (← is) lt in
    reduced_set test n xs i b (position-Some test xs i b found) part ∙ ap (λ (x : Booking). set xs i (record x { seats = x.seats - n })) (sym is)

pub length_reduced : (test : Booking → Bool) (n : ℕ) (xs : List Booking) → length (reduced test n xs) ≤ length xs
length_reduced test n [] = omega arith
length_reduced test n (b ∷ bs) = cases (test b) (nat_le b.seats n) refl refl (length_reduced test n bs) where
  cases : (t u : Bool) → test b ≡ t → nat_le b.seats n ≡ u → length (reduced test n bs) ≤ length bs
      → length (reduced test n (b ∷ bs)) ≤ length (b ∷ bs)
  cases true true e f _ = rw (e, f) (omega arith)
  cases true false e f _ = rw (e, f) (omega arith)
  cases false u e f rest = rw e (omega (arith, rest))
