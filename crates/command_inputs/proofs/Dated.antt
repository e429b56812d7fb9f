-- The day that a word names, or none.
use Rattle.std.proofs.Common.{◌≡◌, ℕ, List, Option, Some, None, sym, ◌∙◌}
use Rattle.seat_words.specs.DayWords.{IsDateWord}
use Rattle.command_inputs.specs.Asked.{NamesNoDay}

none_some : (day : ℕ) → ◌≡◌ {A = Option ℕ} None (Some day) → ⊥
none_some day e = cc

pub no_day : (word : List ℕ) (found : Option ℕ) → ((day : ℕ) → IsDateWord word day → found ≡ Some day) → found ≡ None → NamesNoDay word
no_day word found only none = record { none = λ day is. none_some day (sym none ∙ only day is) }
