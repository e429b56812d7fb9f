-- Texts that are put behind each other.
use Rattle.std.proofs.Common.{◌≡◌, ◌∙◌, ◌++◌, ℕ, List, ap, append_assoc}

pub four_put : (a s l g d t u v w : List ℕ) → t ≡ a ++ s → u ≡ t ++ l → v ≡ u ++ g → w ≡ v ++ d → w ≡ a ++ (s ++ (l ++ (g ++ d)))
four_put a s l g d t u v w is-t is-u is-v is-w =
    is-w ∙ ap (λ (x : List ℕ). x ++ d) (is-v ∙ ap (λ (x : List ℕ). x ++ g) (is-u ∙ ap (λ (x : List ℕ). x ++ l) is-t))
    ∙ append_assoc ((a ++ s) ++ l) g d ∙ append_assoc (a ++ s) l (g ++ d) ∙ append_assoc a s (l ++ (g ++ d))
