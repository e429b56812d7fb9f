-- The number of lines that is taken of a journal is one.
use Rattle.std.proofs.Common.{◌≡◌, ℕ, List, Option, Some, None, IfSome, sym, ap, ◌∙◌, subst}
use Rattle.seat_seal.proofs.Knowing.{one_known}
use Rattle.seat_seal.specs.Known.{IsKnown}
use Rattle.seat_seal.specs.declared.beside.Beside.{Beside}
use Rattle.seat_seal.specs.declared.seal.Sealed.{Sealed as Belonging}
use Rattle.seat_scripts.specs.Against.{OfFour}
use Rattle.seat_scripts.specs.Taken.{AreTaken, ForTaken, OneIsTaken, WithTaken, lines_taken}

pub one_taken : OneIsTaken
one_taken given beside journal more other x y =
    x.count
    ∙ (ap (lines_taken given) (one_known beside journal x.known y.known x.is_known y.is_known)
    ∙ sym y.count)

-- the number that was taken of what is known of the last run
pub are_taken : (given : Option ℕ) (beside : Beside) (journal : Option (List ℕ)) (last : Option Belonging) (more : ℕ)
    → IfSome journal (λ zs. IsKnown beside zs last) → more ≡ lines_taken given last
    → IfSome journal (λ zs. AreTaken given beside zs more)
are_taken given beside (Some zs) last more is same = record { known = last; is_known = is; count = same }
are_taken given beside None last more is same = tt

module _ (P : ℕ → List ℕ → List ℕ → List ℕ → List ℕ → Type 0) (set limits after journal : Option (List ℕ)) (given : Option ℕ) (beside : Beside) where
  -- what is so with each number is so with what is taken
  pub for_each : ((more : ℕ) → OfFour set limits after journal (λ xs ys older zs. P more xs ys older zs))
      → OfFour set limits after journal (λ xs ys older zs. ForTaken given beside zs (λ more. P more xs ys older zs))
  for_each all = by set limits after journal all where
    by : (s l a j : Option (List ℕ)) → ((more : ℕ) → OfFour s l a j (λ xs ys older zs. P more xs ys older zs))
        → OfFour s l a j (λ xs ys older zs. ForTaken given beside zs (λ more. P more xs ys older zs))
    by (Some xs) (Some ys) (Some older) (Some zs) all = record { each = λ more is. all more }
    by (Some xs) (Some ys) (Some older) None all = tt
    by (Some xs) (Some ys) None j all = tt
    by (Some xs) None a j all = tt
    by None l a j all = tt

  module _ (taken : ℕ) (are : IfSome journal (λ zs. AreTaken given beside zs taken)) where
    -- what is so with the number that was taken
    pub for_taken : OfFour set limits after journal (λ xs ys older zs. P taken xs ys older zs)
        → OfFour set limits after journal (λ xs ys older zs. ForTaken given beside zs (λ more. P more xs ys older zs))
    for_taken here = by set limits after journal are here where
      by : (s l a j : Option (List ℕ)) → IfSome j (λ zs. AreTaken given beside zs taken)
          → OfFour s l a j (λ xs ys older zs. P taken xs ys older zs)
          → OfFour s l a j (λ xs ys older zs. ForTaken given beside zs (λ more. P more xs ys older zs))
      by (Some xs) (Some ys) (Some older) (Some zs) t p =
          record { each = λ more is. subst (λ (n : ℕ). P n xs ys older zs) (one_taken given beside zs taken more t is) p }
      by (Some xs) (Some ys) (Some older) None t p = tt
      by (Some xs) (Some ys) None j t p = tt
      by (Some xs) None a j t p = tt
      by None l a j t p = tt

    pub with_taken : OfFour set limits after journal (λ xs ys older zs. P taken xs ys older zs)
        → OfFour set limits after journal (λ xs ys older zs. WithTaken given beside zs (λ more. P more xs ys older zs))
    with_taken here = by set limits after journal are here where
      by : (s l a j : Option (List ℕ)) → IfSome j (λ zs. AreTaken given beside zs taken)
          → OfFour s l a j (λ xs ys older zs. P taken xs ys older zs)
          → OfFour s l a j (λ xs ys older zs. WithTaken given beside zs (λ more. P more xs ys older zs))
      by (Some xs) (Some ys) (Some older) (Some zs) t p = record { more = taken; are_taken = t; here = p }
      by (Some xs) (Some ys) (Some older) None t p = tt
      by (Some xs) (Some ys) None j t p = tt
      by (Some xs) None a j t p = tt
      by None l a j t p = tt
