-- An index of bookings by their keys, as it grows.
use Rattle.std.specs.Prelude.{◌≡◌, Some, None}
use Rattle.std.specs.HashMap.{get}
use Rattle.seat_bookings.specs.declared.live_bookings.Key.{Key}
use Rattle.seat_bookings.specs.Live.{same_key, Index, Numbers}

-- each key has the number that it had
pub record SameNumbers (old new : Numbers) : Type 0 where
  pub at : (key : Key) → get same_key new key ≡ get same_key old key

-- an index, where there is one, has what it had
abbrev pub SameIndex : Index → Index → Type 0
SameIndex (Some old) (Some new) = SameNumbers old.value new.value
SameIndex (Some old) None = ⊥
SameIndex None new = new ≡ None
