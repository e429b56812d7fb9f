-- Fewer than seven bytes are no day.
use Rattle.std.proofs.Common.{◌≡◌, ℕ, ◌<◌, List, [], ◌∷◌, length, None, refl, arith}
use Rattle.airline_base.specs.Days.{date_in}
use Rattle.carry_protections.specs.Rows.{date_at}

pub short_date : (bytes : List ℕ) → length bytes < 7 → date_at bytes ≡ None
unfolding date_at date_in
short_date [] h = refl
short_date (a ∷ []) h = refl
short_date (a ∷ b ∷ []) h = refl
short_date (a ∷ b ∷ c ∷ []) h = refl
short_date (a ∷ b ∷ c ∷ d ∷ []) h = refl
short_date (a ∷ b ∷ c ∷ d ∷ e ∷ []) h = refl
short_date (a ∷ b ∷ c ∷ d ∷ e ∷ f ∷ []) h = refl
short_date (a ∷ b ∷ c ∷ d ∷ e ∷ f ∷ g ∷ bytes) h = absurd (omega arith)
