-- The words of a line that is given in pieces, as one word or as several.
use Rattle.std.specs.Prelude.{◌≡◌, ◌⊎◌, ℕ, List, [], ◌∷◌, ◌++◌, ◌==◌, ◌||◌, length, take, nat_eq, if◌then◌else◌, IsTrue, codes}
use Rattle.std.specs.Cmp.Lexicographic.{pointwise}
use Rattle.std.specs.List.{slice_split}
use Rattle.std.specs.Str.{str_eq_ignore_ascii_case}

-- the parts that are not empty
abbrev pub filled : List (List ℕ) → List (List ℕ)
filled [] = []
filled ([] ∷ parts) = filled parts
filled ((b ∷ bs) ∷ parts) = (b ∷ bs) ∷ filled parts

-- what blanks divide
abbrev pub words_of : List ℕ → List (List ℕ)
words_of text = filled (slice_split (λ b. b == 32) text)

-- the words of all pieces, in order
abbrev pub line_of : List (List ℕ) → List (List ℕ)
line_of [] = []
line_of (piece ∷ pieces) = words_of piece ++ line_of pieces

-- without the program's name, or the dash ahead of a fault that is of no line
abbrev pub unnamed : List (List ℕ) → List (List ℕ)
unnamed [] = []
unnamed (word ∷ words) =
    if pointwise nat_eq word (codes "seatdesk:") || pointwise nat_eq word (codes "-") then words else (word ∷ words)

-- of no word the empty text
abbrev pub first_word : List (List ℕ) → List ℕ
first_word [] = []
first_word (word ∷ _) = word

-- the word ends with a colon
pub record IsPlace (word : List ℕ) : Type 0 where
  pub number : List ℕ
  pub is : word ≡ number ++ 58 ∷ []

-- the word is one digit
pub record IsLead (word : List ℕ) : Type 0 where
  pub session : ℕ
  pub is : word ≡ session ∷ []

-- the rest is the line, or all of it behind such a word, the place of a journal or the session of a feed's line
pub record IsUnplaced (line rest : List (List ℕ)) : Type 0 where
  pub either : (rest ≡ line) ⊎ ((ahead : List ℕ) × (IsPlace ahead ⊎ IsLead ahead) × (line ≡ ahead ∷ rest))

-- behind a class no seats and the mark of a closed one, in small letters or capitals
pub record IsRoomBehind (word room : List ℕ) : Type 0 where
  pub class : ℕ
  pub rest : List ℕ
  pub is : word ≡ class ∷ rest
  pub same : IsTrue (str_eq_ignore_ascii_case rest room)
  pub closed : room ≡ codes "0C"

-- a word to a host behind ?, the room of a closed class behind the class, or what a word begins with, as the code of a reply does ahead of its seats
abbrev pub IsPlainOf : List ℕ → List ℕ → Type 0
IsPlainOf word plain = (word ≡ 63 ∷ plain) ⊎ (IsRoomBehind word plain ⊎ (plain ≡ take (length plain) word))
