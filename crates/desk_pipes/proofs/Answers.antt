-- What answers a line.
use Rattle.std.specs.Prelude.{ℕ, List}
use Rattle.desk_pipes.specs.Answering.{IsAnsweredBy, IsOutcome}
use Rattle.desk_pipes.specs.declared.watch.Outcome.{Outcome}
use Rattle.desk_pipes.specs.declared.watch.Watched.{Watched}

pub answered_so : {W : Type 0} (hears : W → W → ℕ → ℕ → List ℕ → Watched → Type 0) (old new : W) (session : ℕ) (line : List ℕ) (outcome : Outcome)
    (today lines : ℕ) (watched : Watched) → hears old new today lines line watched → IsOutcome session watched outcome
    → IsAnsweredBy hears old new session line outcome
answered_so hears old new session line outcome today lines watched heard goes =
    record { today = today; lines = lines; watched = watched; has_heard = heard; goes_so = goes }
