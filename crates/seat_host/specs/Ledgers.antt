-- What contracts see of a share.
use Rattle.std.specs.Prelude.{ℕ, zero, suc, ◌-◌, List, [], ◌∷◌, ◌++◌}

pub record Staked : Type 0 where
  pub number : ℕ
  pub amount : ℕ

abbrev pub counted : ℕ → ℕ → Staked
counted n k = record { number = n; amount = k }

-- the last k of the nine shares, highest number first, with nothing counted
abbrev pub stakes_left : ℕ → List Staked
stakes_left zero = []
stakes_left (suc k) = stakes_left k ++ counted (8 - k) 0 ∷ []
