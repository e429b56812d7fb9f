-- The lines of a booking message: its first line, name lines, and service information.
use Rattle.std.specs.Prelude.{ℕ, Bool, true, false, not, ◌&&◌, ◌||◌, ◌==◌, nat_eq, if◌then◌else◌, List, [], ◌∷◌, length, take, drop, Option, Some, None, codes}
use Rattle.std.specs.Char.{is_ascii_digit}
use Rattle.std.specs.List.{list_all, starts_with}
use Rattle.airline_base.specs.Names.{is_name_byte, is_locator}
use Rattle.airline_base.specs.Fields.{◌>>=◌, fixed_at, byte_at}

-- five of A to Z and 0 to 9
abbrev pub is_address : List ℕ → Bool
is_address text = (length text == 5) && list_all is_name_byte text

-- the bytes behind an address
abbrev pub address_at : List ℕ → Option (List ℕ)
address_at bytes = if is_address (take 5 bytes) then Some (drop 5 bytes) else None

-- nothing, or any bytes behind a stroke or a blank
abbrev pub is_remark : List ℕ → Bool
is_remark [] = true
is_remark (c ∷ rest) = (c == 47) || (c == 32)

-- the locator on the first line of a message
unfoldable pub heading_at : List ℕ → Option (List ℕ)
heading_at text = do
  address ← address_at text
  blank ← byte_at 32 address
  locator ← fixed_at 6 is_locator blank
  if is_remark locator.1 then Some locator.0 else None

-- special or other service information
unfoldable pub is_service_line : List ℕ → Bool
is_service_line text = starts_with nat_eq text (codes "SSR") || starts_with nat_eq text (codes "OSI")

-- a digit, any byte, and then no digit or nothing
unfoldable pub is_name_line : List ℕ → Bool
is_name_line [] = false
is_name_line (a ∷ []) = is_ascii_digit a
is_name_line (a ∷ b ∷ []) = is_ascii_digit a
is_name_line (a ∷ b ∷ c ∷ rest) = is_ascii_digit a && not (is_ascii_digit c)

-- a line behind the first one that asks for no seats
abbrev pub is_passed_over : List ℕ → Bool
is_passed_over text = is_service_line text || is_name_line text
