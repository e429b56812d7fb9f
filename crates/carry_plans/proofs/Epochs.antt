-- The largest epoch of several.
use Rattle.std.proofs.Common.{◌≡◌, ℕ, List, [], ◌∷◌, length, arith, refl, ap, sym, ◌∙◌}
use Rattle.std.specs.Prelude.{max}
use Rattle.seat_seal.specs.declared.seal.Sealed.{Sealed as Belonging}
use Rattle.carry_plans.specs.Knowing.{latest}

pub latest_none : (all : List Belonging) → length all ≡ 0 → 0 ≡ latest all
latest_none [] none = refl
latest_none (known ∷ others) none = absurd (omega (arith, none))

pub latest_more : (all others : List Belonging) (known : Belonging) (rest most : ℕ) → all ≡ known ∷ others → rest ≡ latest others
    → most ≡ max known.era.epoch rest → most ≡ latest all
latest_more all others known rest most is of larger = larger ∙ (ap (max known.era.epoch) of ∙ sym (ap latest is))
