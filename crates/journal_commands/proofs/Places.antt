-- Names, one behind the other.
use Rattle.std.proofs.Common.{◌≡◌, ◌≤◌, ◌<◌, ◌-◌, ℕ, Bool, true, false, nat_le, List, [], ◌∷◌, map, arith, refl, sym, ap, ◌∙◌}
use Rattle.std.proofs.lemmas.Bool.Decides.{nat_tests}
use Rattle.std.specs.Borrow.{Bor}
use Rattle.journal_commands.specs.Names.{last_of, name_at}

abbrev texts : List (Bor (List ℕ)) → List (List ℕ)
texts = map (λ name. name.now)

module _ (first : List ℕ) (others : List (Bor (List ℕ))) where
  pub none_behind : (place : ℕ) → others ≡ [] → first ≡ name_at first (map (λ name. name.now) others) place
  none_behind place none = ap (λ (l : List (Bor (List ℕ))). name_at first (texts l) place) (sym none)

  pub none_last : others ≡ [] → first ≡ last_of first (map (λ name. name.now) others)
  none_last none = ap (λ (l : List (Bor (List ℕ))). last_of first (texts l)) (sym none)

  module _ (next : Bor (List ℕ)) (later : List (Bor (List ℕ))) (are : others ≡ next ∷ later) where
    pub here : (place : ℕ) → place ≤ 1 → first ≡ name_at first (map (λ name. name.now) others) place
    here place low = by (nat_le place 1) refl ∙ ap (λ (l : List (Bor (List ℕ))). name_at first (texts l) place) (sym are) where
      by : (t : Bool) → nat_le place 1 ≡ t → first ≡ name_at first (next.now ∷ texts later) place
      by true e = rw e refl
      by false e = absurd (grind (arith, nat_tests))

    pub later_at : (place less : ℕ) (name : List ℕ) → 1 < place → less ≡ place - 1 → name ≡ name_at next.now (map (λ name. name.now) later) less
        → name ≡ name_at first (map (λ name. name.now) others) place
    later_at place less name high is same =
        same
        ∙ (ap (λ (n : ℕ). name_at next.now (texts later) n) is
        ∙ (by (nat_le place 1) refl ∙ ap (λ (l : List (Bor (List ℕ))). name_at first (texts l) place) (sym are))) where
          by : (t : Bool) → nat_le place 1 ≡ t → name_at next.now (texts later) (place - 1) ≡ name_at first (next.now ∷ texts later) place
          by true e = absurd (grind (arith, nat_tests))
          by false e = rw e refl

    pub later_last : (name : List ℕ) → name ≡ last_of next.now (map (λ name. name.now) later) → name ≡ last_of first (map (λ name. name.now) others)
    later_last name same = same ∙ ap (λ (l : List (Bor (List ℕ))). last_of first (texts l)) (sym are)
