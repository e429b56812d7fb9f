-- A host's mark among the bytes of a pipe.
use Rattle.std.specs.Prelude.{◌≡◌, ◌<◌, ℕ, List, ◌++◌, length, take}

-- the last of these bytes are the first so many of a mark
pub record IsSeen (mark bytes : List ℕ) (seen : ℕ) : Type 0 where
  pub ahead : List ℕ
  pub ends : bytes ≡ ahead ++ take seen mark

-- whatever was read by then, behind these bytes more so many of the mark's are the last
pub record SeesOn (mark : List ℕ) (seen : ℕ) (bytes : List ℕ) (later : ℕ) : Type 0 where
  pub goes_on : (before : List ℕ) → IsSeen mark before seen → IsSeen mark (before ++ bytes) later

-- a mark stands among these bytes, and no more behind it than one read takes
pub record HasMark (mark bytes : List ℕ) : Type 0 where
  pub ahead : List ℕ
  pub behind : List ℕ
  pub stands : bytes ≡ ahead ++ mark ++ behind
  pub few : length behind < 513
