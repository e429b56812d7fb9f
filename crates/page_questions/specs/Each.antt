-- Parts of so many numbers, one behind the other.
use Rattle.std.specs.Prelude.{ℕ, zero, suc, ◌+◌, List, [], ◌++◌}

-- from one number on
abbrev pub of_each : {A : Type 0} → (ℕ → List A) → ℕ → ℕ → List A
of_each part zero k = []
of_each part (suc n) k = part k ++ of_each part n (k + 1)
