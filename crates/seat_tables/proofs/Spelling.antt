-- The text of a value, begun with none.
use Rattle.std.proofs.Common.{◌≡◌, ℕ, List, [], ◌++◌, ap, ◌∙◌}

pub begun : (old new part : List ℕ) → old ≡ [] → new ≡ old ++ part → new ≡ part
begun old new part empty is = is ∙ ap (λ (l : List ℕ). l ++ part) empty
