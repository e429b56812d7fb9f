-- The fields that several texts have, and the pieces that fields are made of.
use Rattle.std.specs.Prelude.{◌≡◌, ℕ, ◌+◌, ◌-◌, ◌*◌, ◌<◌, ◌≤◌, IsTrue, Bool, ◌&&◌, ◌==◌, nat_eq, nat_lt, nat_le, if◌then◌else◌, List, [], ◌∷◌, length, take, drop, Option, Some, None}
use Rattle.std.specs.Char.{is_ascii_digit}
use Rattle.std.specs.Cmp.Lexicographic.{pointwise}
use Rattle.std.specs.List.{prefix_len, list_all}
use Rattle.std.specs.Str.Parse.{digits_value}

-- ---- fields at the front of the bytes: a value, and the bytes behind it

abbrev pub Field : Type 0 → Type 0
Field A = Option (A × List ℕ)

infixl 10 ◌>>=◌
abbrev pub ◌>>=◌ : {A B : Type 0} → Option A → (A → Option B) → Option B
(Some x) >>= f = f x
None >>= f = None

-- this byte
abbrev pub byte_at : ℕ → List ℕ → Option (List ℕ)
byte_at b [] = None
byte_at b (c ∷ rest) = if c == b then Some rest else None

-- this word
abbrev pub word_at : List ℕ → List ℕ → Option (List ℕ)
word_at word bytes = if pointwise nat_eq (take (length word) bytes) word then Some (drop (length word) bytes) else None

-- n bytes that pass the test
unfoldable pub fixed_at : ℕ → (List ℕ → Bool) → List ℕ → Field (List ℕ)
fixed_at n test bytes = if test (take n bytes) then Some (take n bytes, drop n bytes) else None

abbrev pub numeral_in : ℕ → List ℕ → List ℕ → Field ℕ
numeral_in most run rest =
    if nat_le (length run) most && nat_lt 0 (digits_value 10 run) then Some (digits_value 10 run, rest) else None

-- the run of digits, at most so many of them, which writes a number above 0
unfoldable pub numeral_at : ℕ → List ℕ → Field ℕ
numeral_at most bytes =
    numeral_in most (take (prefix_len is_ascii_digit bytes) bytes) (drop (prefix_len is_ascii_digit bytes) bytes)

-- ---- their grammar

-- a number above 0 in at most so many digits, with or without leading zeros
pub record IsNumberText (most : ℕ) (digits : List ℕ) (n : ℕ) : Type 0 where
  pub few : length digits ≤ most
  pub each : IsTrue (list_all is_ascii_digit digits)
  pub value : n ≡ digits_value 10 digits
  pub positive : 0 < n

-- the one letter of a suffix, where there is one
abbrev pub suffix_text : Option ℕ → List ℕ
suffix_text None = []
suffix_text (Some letter) = letter ∷ []

-- ---- two digits, and the month of three letters

abbrev pub two_are : ℕ → ℕ → Bool
two_are t u = is_ascii_digit t && is_ascii_digit u

-- tens and units
abbrev pub two_value : ℕ → ℕ → ℕ
two_value t u = (t - 48) * 10 + (u - 48)

-- JAN to DEC are 1 to 12
abbrev pub month_of : ℕ → ℕ → ℕ → Option ℕ
month_of a b c =
    if (a == 74) && (b == 65) && (c == 78) then Some 1
    else if (a == 70) && (b == 69) && (c == 66) then Some 2
    else if (a == 77) && (b == 65) && (c == 82) then Some 3
    else if (a == 65) && (b == 80) && (c == 82) then Some 4
    else if (a == 77) && (b == 65) && (c == 89) then Some 5
    else if (a == 74) && (b == 85) && (c == 78) then Some 6
    else if (a == 74) && (b == 85) && (c == 76) then Some 7
    else if (a == 65) && (b == 85) && (c == 71) then Some 8
    else if (a == 83) && (b == 69) && (c == 80) then Some 9
    else if (a == 79) && (b == 67) && (c == 84) then Some 10
    else if (a == 78) && (b == 79) && (c == 86) then Some 11
    else if (a == 68) && (b == 69) && (c == 67) then Some 12
    else None
