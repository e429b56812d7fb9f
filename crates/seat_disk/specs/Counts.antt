-- What a call of a device does to its count of failures.
use Rattle.std.specs.Prelude.{◌≡◌, ℕ, Result, MatchResult}
use Rattle.airline_base.specs.Noting.{noted}

-- a call adds one exactly where it is answered with an error
abbrev pub NotesCall : {T E : Type 0} → ℕ → ℕ → Result T E → Type 0
NotesCall old new r = MatchResult r (λ _. new ≡ old) (λ _. new ≡ noted old)
