-- Steps of a walk along a list.
use Rattle.std.proofs.Common.{◌≡◌, ℕ, ◌+◌, ◌<◌, List, ◌∷◌, length, get_or, drop, sym, ap, ◌∙◌, add-one, drop-cons}

-- what is left begins with the element that is next
pub drop_step : {A : Type 0} (xs : List A) (i : ℕ) (x : A) → i < length xs → x ≡ get_or xs i x
    → drop i xs ≡ x ∷ drop (i + 1) xs
drop_step xs i x inside is =
    drop-cons xs i x inside ∙ ap (λ k. get_or xs i x ∷ drop k xs) (sym (add-one i)) ∙ ap (λ y. y ∷ drop (i + 1) xs) (sym is)
