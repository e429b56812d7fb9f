-- The first line of a text.
use Rattle.std.proofs.Common.{◌≡◌, ℕ, zero, suc, ◌+◌, ◌-◌, ◌<◌, add-one, not, nat_lt, Bool, true, false, ◌==◌, cond, List, [], ◌∷◌, length, take, drop, Some, None, get_or, position, arith, refl, sym}
use Rattle.std.proofs.lemmas.List.Quantifiers.{position-Some}
use Rattle.std.proofs.lemmas.Bool.Decides.{nat_tests}
use Rattle.std.proofs.lemmas.List.{take_rest}
use Rattle.std.specs.List.{prefix_len}
use Rattle.seat_reports.specs.Lines.{ahead, lines_of}

-- the first byte that is an LF
abbrev pub IsFirst : List ℕ → ℕ → Type 0
IsFirst xs i = (i < length xs) × ((get_or xs i 0 == 10) ≡ true) × ((k : ℕ) → k < i → (get_or xs k 0 == 10) ≡ false)

pub cut_at : (xs : List ℕ) (i : ℕ) → IsFirst xs i → lines_of xs ≡ take i xs ∷ lines_of (drop (suc i) xs)
cut_at [] i first = absurd (omega (arith, first.0))
cut_at (x ∷ xs) zero first = rw (first.1) refl
cut_at (x ∷ xs) (suc i) first =
    let rest = cut_at xs i (omega (arith, first.0), first.1, λ k h. first.2 (suc k) (omega arith)) in
    let other : (x == 10) ≡ false = first.2 zero (omega arith) in
    rw (other, rest) refl

pub lines_cut : (xs : List ℕ) (i : ℕ) → Some i ≡ position (λ c. c == 10) xs
    → lines_of xs ≡ take i xs ∷ lines_of (take (length xs - (i + 1)) (drop (i + 1) xs))
lines_cut xs i found =
    rw (take_rest xs (i + 1), add-one) (cut_at xs i (position-Some (λ c. c == 10) xs i 0 (sym found)))

-- a text without an LF is its only line
abbrev pub whole : List ℕ → List (List ℕ)
whole [] = []
whole (x ∷ xs) = (x ∷ xs) ∷ []

ahead_whole : (x : ℕ) (xs : List ℕ) → ahead x (whole xs) ≡ (x ∷ xs) ∷ []
ahead_whole x [] = refl
ahead_whole x (y ∷ ys) = refl

abbrev pub none_lf : List ℕ → Bool
none_lf xs = nat_lt (prefix_len (λ c. not (c == 10)) xs) (length xs)

without_lf : (xs : List ℕ) → none_lf xs ≡ false → lines_of xs ≡ whole xs
without_lf [] none = refl
without_lf (x ∷ xs) none = cases (x == 10) refl (without_lf xs)
  where
    cases : (b : Bool) → (x == 10) ≡ b → (none_lf xs ≡ false → lines_of xs ≡ whole xs)
        → lines_of (x ∷ xs) ≡ whole (x ∷ xs)
    cases true e rest =
        let h : nat_lt 0 (suc (length xs)) ≡ false = rw e at none in
        absurd (grind (arith, nat_tests))
    cases false e rest =
        let h : nat_lt (1 + prefix_len (λ c. not (c == 10)) xs) (suc (length xs)) ≡ false = rw e at none in
        let k : none_lf xs ≡ false = grind (arith, nat_tests) in
        let r = rest k in
        rw (e, r) (ahead_whole x xs)

not_below : (b : Bool) (n : ℕ) → None ≡ cond b (Some n) None → b ≡ false
not_below true n e = absurd cc
not_below false n e = refl

pub lines_last : (xs : List ℕ) → 0 < length xs → None ≡ position (λ c. c == 10) xs → lines_of xs ≡ xs ∷ []
lines_last [] some none = absurd (omega arith)
lines_last (x ∷ xs) some none = without_lf (x ∷ xs) (not_below (none_lf (x ∷ xs)) (prefix_len (λ c. not (c == 10)) (x ∷ xs)) none)
