-- The list of a flight's live bookings, and the index by which one is found.
use Rattle.std.specs.Prelude.{◌≡◌, ℕ, ◌&&◌, ◌==◌, Bool, true, nat_eq, nat_lt, List, [], ◌∷◌, Option, Some, None, IfSome, if◌then◌else◌}
use Rattle.std.specs.Global.{Box}
use Rattle.std.specs.HashMap.{HashMap, get, spare}
use Rattle.std.specs.Cmp.Lexicographic.{pointwise}
use Rattle.std.specs.declared.hash.FoldHasher.{FoldHasher}
use Rattle.std.specs.declared.hash.BuildHasherDefault.{BuildHasherDefault}
use Rattle.airline_base.specs.declared.place.Place.{Place}
use Rattle.seat_rules.specs.declared.booking.Booking.{Booking}
use Rattle.seat_bookings.specs.declared.live_bookings.Key.{Key}
use Rattle.seat_rules.specs.Bookings.{IsApart}
use Rattle.seat_rules.specs.Applying.{IsOrdered}

-- what a list of live bookings shows: its bookings in order of number, and whether there is memory for one more
pub record Listed : Type 0 where
  pub items : List Booking
  pub spare : Bool

-- in order of number, and no two for the same
pub record AreLive (bookings : List Booking) : Type 0 where
  pub ordered : IsOrdered bookings
  pub apart : IsApart bookings

-- ---- the index

abbrev pub key_for : List ℕ → Place → ℕ → Key
key_for locator place class =
    record { locator = locator; flight = place.flight; from = place.from; to = place.to; class = class }

abbrev pub key_of : Booking → Key
key_of b = key_for b.locator b.place b.class

abbrev pub same_key : Key → Key → Bool
same_key a b =
    pointwise nat_eq a.locator b.locator
    && ((a.flight == b.flight) && ((a.from == b.from) && ((a.to == b.to) && (a.class == b.class))))

-- the number of the booking of a key
abbrev pub number_of : Key → List Booking → Option ℕ
number_of key [] = None
number_of key (b ∷ bs) = (if same_key (key_of b) key then Some b.number else number_of key bs)

abbrev pub Numbers : Type 0
Numbers = HashMap Key ℕ (BuildHasherDefault FoldHasher)

-- the index has the number of each booking by its key, and no other
pub record IsNumbersOf (numbers : Numbers) (bookings : List Booking) : Type 0 where
  pub at : (key : Key) → get same_key numbers key ≡ number_of key bookings

-- the key has this number now, or none, and each other key has what it had
pub record PutsNumber (old new : Numbers) (key : Key) (number : Option ℕ) : Type 0 where
  pub at : (k : Key) → get same_key new k ≡ (if same_key key k then number else get same_key old k)

-- the index of a list; none where it never had many bookings
abbrev pub Index : Type 0
Index = Option (Box Numbers)

-- a number is put into the index, or taken out, where there is one
abbrev pub PutsWhere : Index → Index → Key → Option ℕ → Type 0
PutsWhere (Some old) (Some new) key number = PutsNumber old.value new.value key number
PutsWhere (Some old) None key number = ⊥
PutsWhere None new key number = new ≡ None

-- there is a place in it for one number more
abbrev pub has_place : Index → Bool
has_place None = true
has_place (Some numbers) = nat_lt 0 (spare numbers.value)

-- live bookings, and their index where there is one
pub record IsListed (bookings : List Booking) (index : Index) : Type 0 where
  pub live : AreLive bookings
  pub found : IfSome index (λ numbers. IsNumbersOf numbers.value bookings)

-- there is memory for one booking more, and for its number in the index
abbrev pub has_room : Bool → Index → Bool
has_room bookings index = bookings && has_place index
