-- How many lines of a journal stand ahead of its scripts, behind those of an older one.
use Rattle.std.specs.Prelude.{◌≡◌, ℕ, List, Option, None, Some}
use Rattle.seat_seal.specs.Known.{IsKnown, runs_known}
use Rattle.seat_seal.specs.Runs.{lines_behind}
use Rattle.seat_seal.specs.declared.beside.Beside.{Beside}
use Rattle.seat_seal.specs.declared.seal.Sealed.{Sealed as Belonging}

-- the number that is given, or else that of the lines which the last run went on from, as its seal says, or none
abbrev pub lines_taken : Option ℕ → Option Belonging → ℕ
lines_taken (Some more) known = more
lines_taken None known = lines_behind (runs_known known)

-- so many lines are taken of a journal with what stands beside it
pub record AreTaken (given : Option ℕ) (beside : Beside) (journal : List ℕ) (more : ℕ) : Type 0 where
  pub known : Option Belonging
  pub is_known : IsKnown beside journal known
  pub count : more ≡ lines_taken given known

-- so many are taken, and it is so with them
pub record WithTaken (given : Option ℕ) (beside : Beside) (journal : List ℕ) (is : ℕ → Type 0) : Type 0 where
  pub more : ℕ
  pub are_taken : AreTaken given beside journal more
  pub here : is more

-- it is so with what is taken
pub record ForTaken (given : Option ℕ) (beside : Beside) (journal : List ℕ) (is : ℕ → Type 0) : Type 0 where
  pub each : (more : ℕ) → AreTaken given beside journal more → is more

-- the law: no two numbers are taken
abbrev pub OneIsTaken : Type 0
OneIsTaken =
    (given : Option ℕ) (beside : Beside) (journal : List ℕ) (more other : ℕ) →
    AreTaken given beside journal more → AreTaken given beside journal other → more ≡ other
