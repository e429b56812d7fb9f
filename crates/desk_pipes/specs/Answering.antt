-- What answers a line where it is read, and to whom it goes.
use Rattle.std.specs.Prelude.{◌≡◌, ℕ, List, Bool, true, false}
use Rattle.desk_pipes.specs.declared.watch.Outcome.{Outcome}
use Rattle.desk_pipes.specs.declared.watch.Outcome.TheVariants.{Answered, Handed, HandedAlone}
use Rattle.desk_pipes.specs.declared.watch.Watched.{Watched}
use Rattle.desk_pipes.specs.declared.watch.Watched.TheVariants.{Told, Heard, Awaited}

-- what answers a line that a session's desk said goes to this very desk; a line that is not answered is handed on to the host
abbrev pub IsOutcome : ℕ → Watched → Outcome → Type 0
IsOutcome session (Told text) (Answered letter) = (letter.session ≡ session) × (letter.text ≡ text.items)
IsOutcome session (Told text) outcome = ⊥
IsOutcome session Heard outcome = outcome ≡ Handed
IsOutcome session Awaited outcome = outcome ≡ HandedAlone

-- so it is with what its watch makes of the line, by some day and count of told lines
pub record IsAnsweredBy {W : Type 0} (hears : W → W → ℕ → ℕ → List ℕ → Watched → Type 0) (old new : W) (session : ℕ) (line : List ℕ)
    (outcome : Outcome) : Type 0 where
  pub today : ℕ
  pub lines : ℕ
  pub watched : Watched
  pub has_heard : hears old new today lines line watched
  pub goes_so : IsOutcome session watched outcome

-- a line is answered where it is read
abbrev pub is_answered : Outcome → Bool
is_answered (Answered letter) = true
is_answered Handed = false
is_answered HandedAlone = false
