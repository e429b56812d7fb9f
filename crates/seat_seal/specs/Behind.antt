-- A field behind a word or a byte.
use Rattle.std.specs.Prelude.{ℕ, List}
use Rattle.airline_base.specs.Fields.{Field, ◌>>=◌, byte_at, word_at}

-- a field behind this word
abbrev pub behind_word : {A : Type 0} → List ℕ → (List ℕ → Field A) → List ℕ → Field A
behind_word word field bytes = word_at word bytes >>= field

-- a field behind this byte
abbrev pub behind_byte : {A : Type 0} → ℕ → (List ℕ → Field A) → List ℕ → Field A
behind_byte byte field bytes = byte_at byte bytes >>= field
