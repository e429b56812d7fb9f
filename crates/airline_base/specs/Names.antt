-- The names of the airline standards, as tests on the bytes that write them.
use Rattle.std.specs.Prelude.{ℕ, Bool, false, ◌&&◌, ◌||◌, List, [], ◌∷◌}
use Rattle.std.specs.Char.{is_ascii_uppercase, is_ascii_digit}

-- A to Z or 0 to 9
abbrev pub is_name_byte : ℕ → Bool
is_name_byte c = is_ascii_uppercase c || is_ascii_digit c

-- a city or an airport (IATA location identifier): three letters
abbrev pub is_station : List ℕ → Bool
is_station (a ∷ b ∷ c ∷ []) = is_ascii_uppercase a && is_ascii_uppercase b && is_ascii_uppercase c
is_station _ = false

-- an airline (IATA designator): two letters or digits, one of them a letter
abbrev pub is_airline : List ℕ → Bool
is_airline (a ∷ b ∷ []) = is_name_byte a && is_name_byte b && (is_ascii_uppercase a || is_ascii_uppercase b)
is_airline _ = false

-- a request or reply code (AIRIMP): two letters
abbrev pub is_code : List ℕ → Bool
is_code (a ∷ b ∷ []) = is_ascii_uppercase a && is_ascii_uppercase b
is_code _ = false

-- a record locator: six letters or digits
abbrev pub is_locator : List ℕ → Bool
is_locator (a ∷ b ∷ c ∷ d ∷ e ∷ f ∷ []) =
    is_name_byte a && is_name_byte b && is_name_byte c && is_name_byte d && is_name_byte e && is_name_byte f
is_locator _ = false
