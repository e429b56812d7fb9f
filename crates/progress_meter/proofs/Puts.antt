-- Texts that are put behind each other.
use Rattle.std.proofs.Common.{◌≡◌, ◌∙◌, ◌++◌, ℕ, List, ap, append_assoc}

pub three_put : (a s l m t u v : List ℕ) → t ≡ a ++ s → u ≡ t ++ l → v ≡ u ++ m → v ≡ a ++ (s ++ (l ++ m))
three_put a s l m t u v is-t is-u is-v =
    is-v ∙ ap (λ (x : List ℕ). x ++ m) (is-u ∙ ap (λ (x : List ℕ). x ++ l) is-t) ∙ append_assoc (a ++ s) l m ∙ append_assoc a s (l ++ m)
