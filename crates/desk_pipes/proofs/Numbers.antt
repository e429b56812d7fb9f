-- Outboxes that stand at their sessions' numbers.
use Rattle.std.proofs.Common.{◌≡◌, ◌<◌, ◌≤◌, ◌⊎◌, ℕ, List, [], ◌∷◌, ◌++◌, length, get_or, inl, inr, sym, ap, ◌∙◌, subst, arith, length-append}
use Rattle.std.specs.Prelude.{Some, slice_get}
use Rattle.std.proofs.lemmas.List.{get_or_append_left}
use Rattle.std.proofs.Math.Nat.{eq-or-lt_of_le}
use Rattle.std.proofs.Math.Seq.{get_or-append_seam}
use Rattle.std.proofs.lemmas.Option.{same_Some, slice_get_within, slice_get-get_or}
use Rattle.desk_pipes.specs.Waiting.{AreNumbered}

pub none_numbered : AreNumbered []
none_numbered = record { at = λ n within. absurd (omega (arith, within)) }

at_more : (numbers : List ℕ) (n : ℕ) → AreNumbered numbers → (n ≡ length numbers) ⊎ (n < length numbers)
    → get_or (numbers ++ length numbers ∷ []) n 0 ≡ n
at_more numbers n are (inl last) =
    ap (λ (k : ℕ). get_or (numbers ++ length numbers ∷ []) k 0) last ∙ get_or-append_seam numbers (length numbers) [] 0 ∙ sym last
at_more numbers n are (inr within) = get_or_append_left numbers (length numbers ∷ []) 0 n within ∙ are.at n within

all_more : (numbers : List ℕ) → AreNumbered numbers → AreNumbered (numbers ++ length numbers ∷ [])
all_more numbers are = record {
  at = λ n within.
      let before : n ≤ length numbers = omega (arith, within, length-append numbers (length numbers ∷ [])) in
      at_more numbers n are (eq-or-lt_of_le before);
}

-- the next session's stands behind them
pub one_more : (old new : List ℕ) (session : ℕ) → AreNumbered old → length old ≡ session → new ≡ old ++ session ∷ [] → AreNumbered new
one_more old new session are count is =
    subst AreNumbered (sym (is ∙ ap (λ (n : ℕ). old ++ n ∷ []) (sym count))) (all_more old are)

-- the one at a number is that session's
pub is_own : (numbers : List ℕ) (session found : ℕ) → AreNumbered numbers → slice_get numbers session ≡ Some found → found ≡ session
is_own numbers session found are there =
    let within : session < length numbers = slice_get_within numbers session found there in
    same_Some found (get_or numbers session 0) (sym there ∙ slice_get-get_or numbers session 0 within) ∙ are.at session within
