-- What was read of an input is all of it.
use Rattle.std.proofs.Common.{◌≡◌, ℕ, List, Option, Some, None, IfSome, ◌∙◌, subst}
use Rattle.seat_desk.specs.Desk.{OfInput}

-- so what answers the bytes that were read answers the input
pub of_input : (answers : List ℕ → List ℕ → Type 0) (input : Option (List ℕ)) (bytes slice text : List ℕ)
    → slice ≡ bytes → IfSome input (λ xs. bytes ≡ xs)
    → answers slice text → OfInput answers input text
of_input answers (Some xs) bytes slice text same whole right = subst (λ (l : List ℕ). answers l text) (same ∙ whole) right
of_input answers None bytes slice text same whole right = tt
