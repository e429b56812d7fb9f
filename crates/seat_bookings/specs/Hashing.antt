-- A booking's key as one number, with its fields side by side, as an index hashes it.
use Rattle.std.specs.Prelude.{ℕ, ◌+◌, ◌*◌, List, [], ◌∷◌, slice_index}
use Rattle.std.specs.Int.{w64, from_le_bytes}
use Rattle.seat_bookings.specs.declared.live_bookings.Key.{Key}

-- the six characters of a locator, and two bytes behind them
abbrev pub behind_locator : List ℕ → ℕ → ℕ → List ℕ
behind_locator l from to =
    slice_index l 0 ∷ slice_index l 1 ∷ slice_index l 2 ∷ slice_index l 3 ∷ slice_index l 4 ∷ slice_index l 5
    ∷ from ∷ to ∷ []

abbrev pub key_number : Key → ℕ
key_number k =
    from_le_bytes w64 (behind_locator k.locator k.from k.to)
    + 18446744073709551616 * (k.flight + 4294967296 * k.class)
