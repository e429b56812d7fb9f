-- The lines of legs on which more is held than there is.
use Rattle.std.proofs.Common.{◌≡◌, ℕ, List, [], ◌∷◌, ◌++◌, refl, ap, ◌∙◌, codes}
use Rattle.seat_desk.specs.FlightsDesk.{IsPut}
use Rattle.seat_lists.proofs.LiveTexts.{one_line}
use Rattle.limit_changes.specs.Lines.{IsNamePut}
use Rattle.limit_changes.proofs.Written.{three}
use Rattle.carry_limits.specs.Overs.{IsOverLine, over_text}
use Rattle.carry_limits.specs.declared.counting.Over.{Over}

pub over_put : (over : Over) (old a b new : List ℕ) → a ≡ old ++ codes "OVER " → IsNamePut over.leg a b → new ≡ b ++ over_text over
    → IsPut (λ n. IsOverLine) 0 (over ∷ []) old new
over_put over old a b new is_a name is_new =
    let line : List ℕ = codes "OVER " ++ name.part ++ over_text over in
    let is_line : IsOverLine over line = record { name = name.part; is_name = name.is_name; written = refl } in
    one_line IsOverLine over old new line is_line
    (is_new ∙ ap (λ (l : List ℕ). l ++ over_text over) (name.written ∙ ap (λ (l : List ℕ). l ++ name.part) is_a)
    ∙ three old (codes "OVER ") name.part (over_text over))
