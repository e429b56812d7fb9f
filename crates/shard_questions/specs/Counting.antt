-- How many lines each of several journals has.
use Rattle.std.specs.Prelude.{◌≡◌, ℕ, List, [], ◌∷◌, ◌++◌, length, Option, IfSome}
use Rattle.seat_journal.specs.declared.entry.Entry.{Entry}
use Rattle.seat_shards.specs.Taking.{IsTextOf}

-- the text is that of a journal of so many lines
pub record HasCount (count : ℕ) (text : List ℕ) : Type 0 where
  pub entries : List Entry
  pub is_text : IsTextOf text entries
  pub is : count ≡ length entries

abbrev pub CountsOf : List (List ℕ) → List ℕ → Type 0
CountsOf [] [] = Unit {0}
CountsOf (text ∷ texts) (count ∷ counts) = HasCount count text × CountsOf texts counts
CountsOf _ _ = ⊥

-- each text is that of a journal of so many lines
pub record AreCounts (texts : List (List ℕ)) (counts : List ℕ) : Type 0 where
  pub each : CountsOf texts counts

-- the counts of all stand behind the first ones, where their bytes are known
abbrev pub CountedOn : List (Option (List ℕ)) → List ℕ → List ℕ → Type 0
CountedOn [] old new = new ≡ old
CountedOn (text ∷ texts) old new = (count : ℕ) × IfSome text (HasCount count) × CountedOn texts (old ++ count ∷ []) new

pub record AreCountedOn (texts : List (Option (List ℕ))) (old new : List ℕ) : Type 0 where
  pub each : CountedOn texts old new
