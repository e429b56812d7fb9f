-- Lists by place: what holds of each, and rows that are made one by one.
use Rattle.std.proofs.Common.{◌≡◌, ◌⊎◌, ⊎_elim, ℕ, zero, suc, ◌<◌, Bool, true, false, List, [], ◌∷◌, ◌++◌, length, refl, ap, ◌∙◌, subst, arith, get_or, Some, length-append, inl, inr}
use Rattle.seat_replies.proofs.Common.{slice_get, AllByRecursion}
use Rattle.std.specs.Prelude.{All, filter}
use Rattle.std.proofs.Math.ListN.{get_or-append}
use Rattle.std.proofs.Math.Seq.{get_or-append_seam}

module _ {A : Type 0} where
  pub all_of : (P : A → Type 0) (xs : List A) → AllByRecursion P xs → All P xs
  all_of P [] all k d lt = absurd (omega (arith, lt))
  all_of P (x ∷ xs) all zero d lt = all.0
  all_of P (x ∷ xs) all (suc k) d lt = all_of P xs all.1 k d (omega (arith, lt))

  pub all_kept : (P : A → Type 0) (test : A → Bool) (xs : List A) → AllByRecursion P xs
      → AllByRecursion P (filter test xs)
  all_kept P test [] all = tt
  all_kept P test (x ∷ xs) all = cases (test x) refl (all_kept P test xs all.1) where
    cases : (t : Bool) → test x ≡ t → AllByRecursion P (filter test xs) → AllByRecursion P (filter test (x ∷ xs))
    cases true e rest = rw e (all.0, rest)
    cases false e rest = rw e rest

  pub all_append : (P : A → Type 0) (xs ys : List A) → AllByRecursion P xs → AllByRecursion P ys
      → AllByRecursion P (xs ++ ys)
  all_append P [] ys one two = two
  all_append P (x ∷ xs) ys one two = (one.0, all_append P xs ys one.1 two)

  pub each_at : (P : A → Type 0) (xs : List A) (i : ℕ) (x : A) → AllByRecursion P xs → slice_get xs i ≡ Some x → P x
  each_at P [] i x all at = absurd cc
  each_at P (y ∷ xs) zero x all at = let same : y ≡ x = cc at in subst P same all.0
  each_at P (y ∷ xs) (suc i) x all at = each_at P xs i x all.1 at

-- ---- rows

pub place_below : (i n : ℕ) → i < suc n → (i < n) ⊎ (n ≡ i)
place_below zero zero low = inr refl
place_below zero (suc n) low = inl (omega arith)
place_below (suc i) zero low = absurd (omega (arith, low))
place_below (suc i) (suc n) low = ⊎_elim (λ (h : i < n). inl (omega (arith, h))) (λ (h : n ≡ i). inr (ap suc h)) (place_below i n (omega (arith, low)))

-- a row that has f 0, then f 1, and so on
module _ {A : Type 0} (f : ℕ → A) (row : ℕ → List A) (first : row 0 ≡ f 0 ∷ []) (more : (n : ℕ) → row (suc n) ≡ row n ++ f (suc n) ∷ []) where
  pub row_count : (n : ℕ) → length (row n) ≡ suc n
  row_count zero = ap length first
  row_count (suc n) = ap length (more n) ∙ (length-append (row n) (f (suc n) ∷ []) ∙ omega (arith, row_count n))

  pub row_at : (n i : ℕ) (d : A) → i < suc n → get_or (row n) i d ≡ f i
  row_at zero zero d low = ap (λ (l : List A). get_or l 0 d) first
  row_at zero (suc i) d low = absurd (omega (arith, low))
  row_at (suc n) i d low = ap (λ (l : List A). get_or l i d) (more n) ∙ ⊎_elim (λ (lt : i < suc n). below lt (row_at n i d lt)) last (place_below i (suc n) low) where
    below : i < suc n → get_or (row n) i d ≡ f i → get_or (row n ++ f (suc n) ∷ []) i d ≡ f i
    below lt rest =
        let within : i < length (row n) = omega (arith, lt, row_count n) in
        get_or-append (row n) (f (suc n) ∷ []) d i within ∙ rest

    last : suc n ≡ i → get_or (row n ++ f (suc n) ∷ []) i d ≡ f i
    last e =
        subst (λ (k : ℕ). get_or (row n ++ f (suc n) ∷ []) k d ≡ f k) e
        (subst (λ (k : ℕ). get_or (row n ++ f (suc n) ∷ []) k d ≡ f (suc n)) (row_count n) (get_or-append_seam (row n) (f (suc n)) [] d))
