-- The viewers of a table that no desk has yet.
use Rattle.std.specs.Prelude.{◌≡◌, ◌+◌, ℕ, Option, Some, None}
use Rattle.desk_looks.specs.Watching.{Outfit}
use Rattle.desk_looks.specs.Windows.{Flown}

-- flights that threads share, and how many viewers of a table over their legs no desk has
pub record Hung : Type 0 where
  pub flown : Flown
  pub left : ℕ

-- one of them is a desk's, with the flights; only where none is left there is none for it
abbrev pub IsNext : Hung → Hung → Option Outfit → Type 0
IsNext old new None = (old.left ≡ 0) × (new.left ≡ 0) × (new.flown ≡ old.flown)
IsNext old new (Some looks) = (looks.flown ≡ old.flown) × (old.left ≡ new.left + 1) × (new.flown ≡ old.flown)
