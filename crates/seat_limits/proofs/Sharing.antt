-- Ladders that legs share, by the numbers that stand beside their rows.
use Rattle.std.proofs.Common.{◌≡◌, ◌==◌, ◌<◌, ℕ, zero, suc, Bool, true, false, if◌then◌else◌, List, [], ◌∷◌, ◌++◌, length, Option, Some, None, replicate, set, get_or, unwrap_or, refl, ap, sym, subst, ◌∙◌, arith}
use Rattle.std.proofs.lemmas.Bool.{eqb-true}
use Rattle.std.proofs.lemmas.List.{length-replicate, length-set}
use Rattle.std.proofs.lemmas.Option.{slice_get-get_or}
use Rattle.seat_nesting.specs.Nesting.{Steps, steps_at}
use Rattle.seat_nesting.specs.FlatCounts.{Grows}
use Rattle.seat_nesting.proofs.CountChanges.{at_set}
use Rattle.seat_nesting.proofs.Layouts.{grows_one, there_one}
use Rattle.seat_limits.specs.Authorised.{AreNumbers, number_at, row_steps}
use Rattle.seat_limits.specs.declared.limit_row.LimitRow.{LimitRow}

-- nothing stands there yet
none_at : (n i : ℕ) → number_at (replicate n None) i ≡ None
none_at zero i = refl
none_at (suc n) zero = refl
none_at (suc n) (suc i) = none_at n i

pub no_numbers : (rows : List LimitRow) (numbers : List (Option ℕ)) → numbers ≡ replicate (length rows) None
    → AreNumbers numbers rows []
no_numbers rows numbers is = record {
  counted = ap length is ∙ length-replicate {A = Option ℕ} (length rows) None;
  each = λ i k at. (let no : None ≡ Some k = sym (ap (λ (l : List (Option ℕ)). number_at l i) is ∙ none_at (length rows) i) ∙ at in absurd cc);
}

-- one ladder more leaves the numbers as they are
pub still_numbers : (numbers : List (Option ℕ)) (rows : List LimitRow) (ladders after : List Steps) (ladder : Steps)
    → AreNumbers numbers rows ladders → after ≡ ladders ++ ladder ∷ [] → AreNumbers numbers rows after
still_numbers numbers rows ladders after ladder are after_is = record {
  counted = are.counted;
  each = λ i k at.
      let grows : Grows ladders after = subst (λ (l : List Steps). Grows ladders l) (sym after_is) (grows_one ladders ladder) in
      let old = are.each i k at in
      let few = old.0 in
      let le = grows.longer in
      (omega (arith, few, le), grows.same k old.0 ∙ old.1);
}

-- the number of a row's ladder stands beside the row
pub note_number : (numbers : List (Option ℕ)) (rows : List LimitRow) (ladders : List Steps) (i number : ℕ)
    → AreNumbers numbers rows ladders → i < length rows → number < length ladders
    → steps_at ladders number ≡ row_steps rows (Some i) → AreNumbers (set numbers i (Some number)) rows ladders
note_number numbers rows ladders i number are inside there is = record {
  counted = length-set numbers i (Some number) ∙ are.counted;
  each = λ j k e. of j k (j == i) refl e;
}
  where
    written : (j : ℕ) (b : Bool) → (j == i) ≡ b
        → number_at (set numbers i (Some number)) j ≡ (if b then Some number else number_at numbers j)
    written j b h =
        at_set numbers i j (Some number) None (omega (arith, inside, are.counted))
        ∙ ap (λ (t : Bool). if t then Some number else number_at numbers j) h

    of : (j k : ℕ) (b : Bool) → (j == i) ≡ b → number_at (set numbers i (Some number)) j ≡ Some k
        → (k < length ladders) × (steps_at ladders k ≡ row_steps rows (Some j))
    of j k true h e =
        let same : Some number ≡ Some k = sym (written j true h) ∙ e in
        let row : j ≡ i = eqb-true j i h in
        subst (λ (n : ℕ). (n < length ladders) × (steps_at ladders n ≡ row_steps rows (Some j))) (cc)
        (there, is ∙ ap (λ (r : ℕ). row_steps rows (Some r)) (sym row))
    of j k false h e = are.each j k (sym (written j false h) ∙ e)

pub put_steps : (ladders after : List Steps) (number : ℕ) (ladder : Steps) → number ≡ length ladders
    → after ≡ ladders ++ ladder ∷ [] → steps_at after number ≡ ladder
put_steps ladders after number ladder at is = ap (λ (l : List Steps). steps_at l number) is ∙ (there_one ladders ladder ladder number at refl).1

-- the number that stands beside a row
pub found_number : (numbers : List (Option ℕ)) (i k : ℕ) (found : Option ℕ) → i < length numbers
    → found ≡ get_or numbers i found → found ≡ Some k → number_at numbers i ≡ Some k
found_number numbers i k found inside is some = ap (λ (o : Option (Option ℕ)). unwrap_or o None) (slice_get-get_or numbers i found inside) ∙ sym is ∙ some
