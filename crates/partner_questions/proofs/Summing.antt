-- The two counts of the last line.
use Rattle.std.proofs.Common.{◌≡◌, ◌≤◌, ◌+◌, ◌-◌, ℕ, List, [], ◌∷◌, length, Option, Some, None, arith, ap, ◌∙◌}
use Rattle.std.specs.List.{flat_map}
use Rattle.std.specs.Prelude.{option_map, option_to_list}
use Rattle.std.proofs.lemmas.List.Concat.{flat_map-cons}
use Rattle.std.proofs.lemmas.List.{length-append}
use Rattle.airimp_lines.specs.declared.requests.Request.{Request}
use Rattle.partner_questions.specs.Differences.{differences, our_differences, standing_of, their_difference, their_differences}
use Rattle.partner_lists.specs.Names.{last_named}
use Rattle.partner_lists.specs.Reading.{own_name}
use Rattle.partner_questions.specs.Here.{all_named}
use Rattle.partner_questions.specs.Sums.{CountsAreWhole}
use Rattle.partner_questions.specs.Touches.{touched}
use Rattle.partner_questions.specs.declared.difference.Difference.{Difference}

at_most_one : (o : Option Difference) → length (option_to_list o) ≤ 1
at_most_one None = omega arith
at_most_one (Some d) = omega arith

-- each item has at most one
few : {A : Type 0} (f : A → Option Difference) (xs : List A) → length (flat_map (λ x. option_to_list (f x)) xs) ≤ length xs
few f [] = omega arith
few {A} f (x ∷ xs) =
    let rest : length (flat_map (λ (y : A). option_to_list (f y)) xs) ≤ length xs = few f xs in
    let one : length (option_to_list (f x)) ≤ 1 = at_most_one (f x) in
    let sum : length (flat_map (λ (y : A). option_to_list (f y)) (x ∷ xs)) ≡ length (option_to_list (f x)) + length (flat_map (λ (y : A). option_to_list (f y)) xs) =
    ap (λ (l : List Difference). length l) (flat_map-cons (λ (y : A). option_to_list (f y)) x xs) ∙ length-append (option_to_list (f x)) (flat_map (λ (y : A). option_to_list (f y)) xs) in
    omega (arith, rest, one, sum)

whole : (n t o d : ℕ) → t ≤ n → d ≡ t + o → (n - t) + d ≡ n + o
whole n t o d le is = omega (arith, le, is)

pub counts_are_whole : CountsAreWhole
counts_are_whole flights journal ours theirs =
    whole (length theirs) (length (their_differences flights journal ours theirs)) (length (our_differences flights journal ours theirs)) (length (differences flights journal ours theirs))
    (few (λ (r : Request). their_difference r (option_map standing_of (last_named (own_name r) (all_named flights ours))) (last_named (own_name r) (touched flights journal))) theirs)
    (length-append (their_differences flights journal ours theirs) (our_differences flights journal ours theirs))
