-- The part that the new journal is of a carry to several hosts, and what names the journals of all of them.
use Rattle.std.specs.Prelude.{◌≡◌, ◌≢◌, ℕ, List, ◌∷◌, ◌++◌, Option, None, Some, decimal}
use Rattle.carry_parts.specs.declared.part.Part.{Part}
use Rattle.seat_words.specs.NameWords.{shard_in}
use Rattle.seat_words.specs.declared.names.ShardWord.{ShardWord}

-- ---- the names of the journals

-- a full stop and the number of the host
abbrev pub ending : ℕ → List ℕ
ending shard = 46 ∷ decimal shard

-- what the paths of all hosts begin with
abbrev pub IsStem : List ℕ → ℕ → List ℕ → Type 0
IsStem path shard stem = path ≡ stem ++ ending shard

abbrev pub HasNoStem : List ℕ → ℕ → Type 0
HasNoStem path shard = (stem : List ℕ) → path ≢ stem ++ ending shard

-- what names them all: what their paths begin with, a byte NUL, which no path has, and how many hosts there are
abbrev pub name_of_all : List ℕ → ℕ → List ℕ
name_of_all stem shards = stem ++ 0 ∷ decimal shards

pub record IsNameOfAll (path : List ℕ) (part : Part) (name : List ℕ) : Type 0 where
  pub stem : List ℕ
  pub is_stem : IsStem path part.shard stem
  pub name_is : name ≡ name_of_all stem part.shards

-- by what a mark names the journal of a path: by the path, or by what names those of all hosts; by nothing where the path has another ending
abbrev pub IsMarkName : List ℕ → Option Part → Option (List ℕ) → Type 0
IsMarkName path None None = ⊥
IsMarkName path None (Some name) = name ≡ path
IsMarkName path (Some part) None = HasNoStem path part.shard
IsMarkName path (Some part) (Some name) = IsNameOfAll path part name

-- ---- the words

-- the word names a shard, and the new journal's name ends with its number
pub record IsPartOf (word new : List ℕ) (part : Part) : Type 0 where
  pub read : shard_in word ≡ Some (record { shard = part.shard; shards = part.shards })
  pub stem : List ℕ
  pub is_stem : IsStem new part.shard stem

abbrev pub IsPartAsked : Option (List ℕ) → List ℕ → Option Part → Type 0
IsPartAsked None new None = Unit {0}
IsPartAsked None new (Some part) = ⊥
IsPartAsked (Some word) new None = ⊥
IsPartAsked (Some word) new (Some part) = IsPartOf word new part

-- the word names no shard, or one whose number the new journal's name doesn't end with
abbrev pub IsWrong : Option ShardWord → List ℕ → Type 0
IsWrong None new = Unit {0}
IsWrong (Some s) new = HasNoStem new s.shard

abbrev pub IsUnasked : Option (List ℕ) → List ℕ → Type 0
IsUnasked None new = ⊥
IsUnasked (Some word) new = IsWrong (shard_in word) new
