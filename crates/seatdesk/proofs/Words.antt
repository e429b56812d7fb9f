-- One part, and one piece, ahead of those that are left; a line without the word ahead of a fault.
use Rattle.std.proofs.Common.{◌≡◌, ℕ, suc, zero, ◌+◌, ◌<◌, List, [], ◌∷◌, ◌++◌, length, map, drop, get_or, take, ◌-◌, ◌≤◌, ◌⊎◌, inl, inr, refl, sym, ap, ◌∙◌, arith, append_assoc}
use Rattle.std.proofs.lemmas.List.{take_rest}
use Rattle.std.specs.Borrow.{Bor}
use Rattle.seatdesk.specs.Words.{filled, line_of, words_of, IsLead, IsPlace, IsUnplaced}

abbrev texts : List (Bor (List ℕ)) → List (List ℕ)
texts xs = map (λ x. x.now) xs

dropped : (xs : List (Bor (List ℕ))) (i : ℕ) (d : Bor (List ℕ)) → i < length xs
    → drop i (texts xs) ≡ (get_or xs i d).now ∷ drop (suc i) (texts xs)
dropped [] i d less = absurd (omega (arith, less))
dropped (x ∷ xs) zero d less = refl
dropped (x ∷ xs) (suc i) d less = dropped xs i d (omega (arith, less))

filled_head : (part : List ℕ) (parts : List (List ℕ)) → filled (part ∷ parts) ≡ filled (part ∷ []) ++ filled parts
filled_head [] parts = refl
filled_head (b ∷ bs) parts = refl

next : (i : ℕ) → suc i ≡ i + 1
next i = omega (arith)

pub part_step : (all ws new : List (List ℕ)) (xs : List (Bor (List ℕ))) (i : ℕ) (d : Bor (List ℕ)) → i < length xs
    → all ≡ ws ++ filled (drop i (map (λ x. x.now) xs)) → new ≡ ws ++ filled ((get_or xs i d).now ∷ [])
    → all ≡ new ++ filled (drop (i + 1) (map (λ x. x.now) xs))
part_step all ws new xs i d less before added =
    let part : List ℕ = (get_or xs i d).now in
    let left : List (List ℕ) = drop (suc i) (texts xs) in
    before
    ∙ ap (λ (l : List (List ℕ)). ws ++ filled l) (dropped xs i d less)
    ∙ ap (λ (l : List (List ℕ)). ws ++ l) (filled_head part left)
    ∙ sym (append_assoc ws (filled (part ∷ [])) (filled left))
    ∙ ap (λ (l : List (List ℕ)). l ++ filled left) (sym added)
    ∙ ap (λ (n : ℕ). new ++ filled (drop n (texts xs))) (next i)

pub piece_step : (all ws new : List (List ℕ)) (xs : List (Bor (List ℕ))) (i : ℕ) (d : Bor (List ℕ)) → i < length xs
    → all ≡ ws ++ line_of (drop i (map (λ x. x.now) xs)) → new ≡ ws ++ words_of (get_or xs i d).now
    → all ≡ new ++ line_of (drop (i + 1) (map (λ x. x.now) xs))
piece_step all ws new xs i d less before added =
    let piece : List ℕ = (get_or xs i d).now in
    let left : List (List ℕ) = drop (suc i) (texts xs) in
    before
    ∙ ap (λ (l : List (List ℕ)). ws ++ line_of l) (dropped xs i d less)
    ∙ sym (append_assoc ws (words_of piece) (line_of left))
    ∙ ap (λ (l : List (List ℕ)). l ++ line_of left) (sym added)
    ∙ ap (λ (n : ℕ). new ++ line_of (drop n (texts xs))) (next i)

pub placed : (line : List (List ℕ)) → IsUnplaced line line
placed line = record { either = inl refl }

pub unplaced : (line : List (Bor (List ℕ))) (d : Bor (List ℕ)) → 1 ≤ length line → IsPlace (get_or line 0 d).now ⊎ IsLead (get_or line 0 d).now
    → IsUnplaced (map (λ word. word.now) line) (map (λ word. word.now) (take (length line - 1) (drop 1 line)))
unplaced [] d some is = absurd (omega (arith, some))
unplaced (word ∷ line) d some is = record {
  either = inr (word.now, is, ap (λ (words : List (Bor (List ℕ))). word.now ∷ texts words) (sym (take_rest (word ∷ line) 1)));
}
