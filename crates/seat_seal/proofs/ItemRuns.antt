-- Items read one after the other.
use Rattle.std.proofs.Common.{◌≡◌, ℕ, suc, ◌+◌, ◌-◌, ◌<◌, ◌≤◌, List, [], ◌∷◌, ◌++◌, Some, None, refl, sym, ap, ◌∙◌, arith}
use Rattle.airline_base.specs.Fields.{Field}
use Rattle.seat_seal.specs.Reading.{items_from, items_in}

module _ {A : Type 0} (at : List ℕ → Field A) (most : ℕ) where
  turn : (n : ℕ) (read : List A) (rest : List ℕ) → items_in at (suc n) read rest ≡ items_from (items_in at n) read rest (at rest)
  unfolding items_in
  turn n read rest = refl

  left : (i : ℕ) (read : List A) (rest : List ℕ) → i < most
      → items_in at (most - i) read rest ≡ items_from (items_in at (most - (i + 1))) read rest (at rest)
  left i read rest lt =
      let n : most - i ≡ suc (most - (i + 1)) = omega arith in
      ap (λ (k : ℕ). items_in at k read rest) n ∙ turn (most - (i + 1)) read rest

  pub one_more : (i : ℕ) (read : List A) (rest after : List ℕ) (x : A) (whole : List A × List ℕ) → i < most
      → items_in at (most - i) read rest ≡ whole → at rest ≡ Some (x, after)
      → items_in at (most - (i + 1)) (read ++ x ∷ []) after ≡ whole
  one_more i read rest after x whole lt kept e =
      sym (ap (items_from (items_in at (most - (i + 1))) read rest) e) ∙ sym (left i read rest lt) ∙ kept

  pub no_more : (i : ℕ) (read : List A) (rest : List ℕ) (whole : List A × List ℕ) → i < most
      → items_in at (most - i) read rest ≡ whole → at rest ≡ None → (read, rest) ≡ whole
  no_more i read rest whole lt kept e =
      sym (ap (items_from (items_in at (most - (i + 1))) read rest) e) ∙ sym (left i read rest lt) ∙ kept

  pub all_read : (i : ℕ) (read : List A) (rest : List ℕ) (whole : List A × List ℕ) → most ≤ i
      → items_in at (most - i) read rest ≡ whole → (read, rest) ≡ whole
  unfolding items_in
  all_read i read rest whole le kept =
      let n : most - i ≡ 0 = omega arith in
      sym (ap (λ (k : ℕ). items_in at k read rest) n) ∙ kept
