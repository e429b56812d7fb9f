-- What a count of failures does at a read and a write, and what it says of a loop over them.
use Rattle.std.specs.Prelude.{◌≡◌, ℕ, Option, Result, ◌+◌, ◌-◌, ◌^◌, ◌<◌, ◌≤◌, min, List, [], ◌++◌, length, take, Bool, true, false, MatchResult, IfSome}
use Rattle.std.specs.Io.KnownBytes.{Appends, Consumes, IsAtEnd}

-- the count after one more failure: it stays at `u64::MAX`
abbrev pub noted : ℕ → ℕ
noted n = min (n + 1) (2 ^ 64 - 1)

-- a read adds one exactly where it is answered with an error
abbrev pub NotesRead : {E : Type 0} → ℕ → ℕ → Result ℕ E → Type 0
NotesRead old new r = MatchResult r (λ _. new ≡ old) (λ _. new ≡ noted old)

-- a write adds one exactly where it is answered with an error, or took 0 bytes of a piece that is not empty
abbrev pub NotesWrite : {E : Type 0} → ℕ → ℕ → Result ℕ E → List ℕ → Type 0
NotesWrite old new r piece = MatchResult r
    (λ n. (0 < n → new ≡ old) × (length piece ≡ 0 → new ≡ old) × (n ≡ 0 → 0 < length piece → new ≡ noted old))
    (λ _. new ≡ noted old)

-- what the writer took is a prefix of the text
pub record TookFront (old new : Option (List ℕ)) (text : List ℕ) : Type 0 where
  pub count : ℕ
  pub appended : Appends old new (take count text)

-- a reader that had read `held` bytes gives so many that they are more than max
abbrev pub GaveMore : ℕ → ℕ → Option (List ℕ) → Type 0
GaveMore max held known = IfSome known (λ xs. max < held + length xs)

-- a reader that had read `held` bytes gave one or more for which memory was wanting, and all are at most max
pub record WantsRoom (max held : ℕ) (old new : Option (List ℕ)) : Type 0 where
  pub given : List ℕ
  pub consumed : Consumes old new given
  pub some : 0 < length given
  pub within : held + length given ≤ max

-- one turn of reading: bytes came and stand behind those held, at most max in all, or the reader is at its end
pub record Turned (max : ℕ) (old new : Option (List ℕ)) (held after : List ℕ) (more : Bool) : Type 0 where
  pub got : List ℕ
  pub appended : after ≡ held ++ got
  pub consumed : Consumes old new got
  pub within : length after ≤ max
  pub grew : more ≡ true → length held < length after
  pub ended : more ≡ false → (got ≡ []) × IsAtEnd new

-- a text of which `rest` is left to write: what is gone from it was appended, and no failure was counted
pub record Sent (old new : Option (List ℕ)) (count_old count_new : ℕ) (text rest : List ℕ) : Type 0 where
  pub done : List ℕ
  pub split : text ≡ done ++ rest
  pub appended : Appends old new done
  pub counted : count_new ≡ count_old

-- bytes that were read so far, at most max, with no failure counted
pub record Held (max : ℕ) (old new : Option (List ℕ)) (count_old count_new : ℕ) (bytes : List ℕ) : Type 0 where
  pub consumed : Consumes old new bytes
  pub within : length bytes ≤ max
  pub counted : count_new ≡ count_old
