-- Steps of a walk along a list or a range.
use Rattle.std.proofs.Common.{◌≡◌, ℕ, Bool, ◌||◌, Option, zero, suc, ◌+◌, ◌<◌, List, [], ◌∷◌, ◌++◌, length, get_or, drop, sym, ap, ◌∙◌, arith, add-one, add-zero, drop-cons}
use Rattle.ssim_flights.proofs.Common.{range_with_len, list_any}
use Rattle.std.specs.List.{filter_map, cons_option}
use Rattle.std.proofs.lemmas.List.Elements.{filter_map-append}

-- what is left begins with the element that is next
pub drop_step : {A : Type 0} (xs : List A) (i : ℕ) (x : A) → i < length xs → x ≡ get_or xs i x
    → drop i xs ≡ x ∷ drop (i + 1) xs
drop_step xs i x inside is =
    drop-cons xs i x inside ∙ ap (λ k. get_or xs i x ∷ drop k xs) (sym (add-one i)) ∙ ap (λ y. y ∷ drop (i + 1) xs) (sym is)

pub range_step : (a n m : ℕ) → n ≡ m + 1 → range_with_len a n ≡ a ∷ range_with_len (a + 1) m
range_step a n m e = ap (range_with_len a) (e ∙ add-one m)

pub range_push : (a n m d : ℕ) → m ≡ n + 1 → d ≡ a + n → range_with_len a m ≡ range_with_len a n ++ d ∷ []
range_push a n m d more at = ap (range_with_len a) (more ∙ add-one n) ∙ pushed a n ∙ ap (λ k. range_with_len a n ++ k ∷ []) (sym at)
  where
    pushed : (a n : ℕ) → range_with_len a (suc n) ≡ range_with_len a n ++ (a + n) ∷ []
    pushed a zero = ap (λ k. k ∷ []) (sym (add-zero a))
    pushed a (suc n) =
        let e : a + 1 + n ≡ a + suc n = omega arith in
        ap (λ r. a ∷ r) (pushed (a + 1) n ∙ ap (λ k. range_with_len (a + 1) n ++ k ∷ []) e)

-- a test of some number of a range, one number on
pub any_step : (p : ℕ → Bool) (a n m : ℕ) → n ≡ m + 1
    → list_any p (range_with_len a n) ≡ (p a || list_any p (range_with_len (a + 1) m))
any_step p a n m e = ap (list_any p) (range_step a n m e)

-- what is kept of a range, one number more
pub filter_map_more : {X : Type 0} (h : ℕ → Option X) (a n m d : ℕ) → m ≡ n + 1 → d ≡ a + n
    → filter_map h (range_with_len a m) ≡ filter_map h (range_with_len a n) ++ cons_option (h d) []
filter_map_more h a n m d more at = ap (filter_map h) (range_push a n m d more at) ∙ filter_map-append h (range_with_len a n) (d ∷ [])
