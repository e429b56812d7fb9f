-- A flight and city pair as one number, with its fields side by side, as an index hashes it.
use Rattle.std.specs.Prelude.{ℕ, ◌+◌, ◌*◌, List, [], ◌∷◌, Option, Some, None, slice_index}
use Rattle.std.specs.Int.{w16, w32, from_le_bytes}
use Rattle.seat_limits.specs.declared.row_index.Pair.{Pair}

-- of 9 bits, with 16 to spare it
abbrev pub suffix_number : Option ℕ → ℕ
suffix_number None = 0
suffix_number (Some letter) = letter + 1

-- of 24 bits, with 32 to spare it
abbrev pub station_number : List ℕ → ℕ
station_number l = from_le_bytes w32 (slice_index l 0 ∷ slice_index l 1 ∷ slice_index l 2 ∷ 0 ∷ [])

abbrev pub flight_number : Pair → ℕ
flight_number p = from_le_bytes w16 p.airline + 65536 * p.number + 4294967296 * suffix_number p.suffix

abbrev pub cities_number : Pair → ℕ
cities_number p = station_number p.board + 4294967296 * station_number p.off

abbrev pub pair_number : Pair → ℕ
pair_number p = flight_number p + 18446744073709551616 * cities_number p
