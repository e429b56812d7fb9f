-- Flights in slots by number, suffix and the local days on which their legs depart.
use Rattle.std.specs.Prelude.{◌≡◌, ℕ, zero, suc, ◌+◌, ◌*◌, ◌%◌, ◌≤◌, ◌<◌, ◌==◌, ◌&&◌, nat_eq, Bool, false, if◌then◌else◌, List, [], ◌∷◌, length, drop, Option, Some, None, slice_get, slice_index_or, unwrap_or}
use Rattle.std.specs.Option.{option_eq, option_or}
use Rattle.std.specs.List.{list_any}
use Rattle.std.specs.Map.{lookup}
use Rattle.std.specs.Cmp.Lexicographic.{pointwise}
use Rattle.airline_base.specs.declared.place.Place.{Place}
use Rattle.ssim_flights.specs.declared.flight.DatedLeg.{DatedLeg}
use Rattle.ssim_flights.specs.declared.flight.Flight.{Flight}
use Rattle.ssim_flights.specs.declared.flight.Wanted.{Wanted}
use Rattle.ssim_flights.specs.declared.flown.Departure.{Departure}
use Rattle.ssim_flights.specs.declared.slots.Entry.{Entry}
use Rattle.ssim_flights.specs.declared.slots.Slots.{Slots}
use Rattle.ssim_flights.specs.Flown.{same_departure}
use Rattle.ssim_flights.specs.Places.{same_wanted, places, places_from}

-- a leg's departure: the flight's number and suffix, and the leg's day
abbrev pub leaving : Flight → DatedLeg → Departure
leaving flight leg = record { number = flight.number; suffix = flight.suffix; day = leg.day }

-- the departure that is wanted
abbrev pub leaving_for : Wanted → Departure
leaving_for w = record { number = w.number; suffix = w.suffix; day = w.day }

-- one of these legs departs so
abbrev pub has_leg_at : Flight → List DatedLeg → Departure → Bool
has_leg_at flight legs d = list_any (λ leg. same_departure (leaving flight leg) d) legs

-- the first of these legs departs on a day
abbrev pub begins_on : List DatedLeg → ℕ → Bool
begins_on [] day = false
begins_on (leg ∷ legs) day = leg.day == day

-- the slot of a departure, where there are so many
unfoldable pub slot_of : Departure → ℕ → ℕ
slot_of d slots = (d.number * 401 + unwrap_or d.suffix 0 * 13 + d.day) * 2654435769 % 4294967296 % slots

-- one of these legs departs in the slot
abbrev pub in_slot : Flight → List DatedLeg → ℕ → ℕ → Bool
in_slot flight legs slots slot = list_any (λ leg. slot_of (leaving flight leg) slots == slot) legs

-- ---- lists

abbrev pub entry_at : List Entry → ℕ → Entry
entry_at entries k = slice_index_or entries k (record { flight = 0; next = 0 })

-- the flights of a list from one of its entries on, at most so many; entries are counted from 1, and 0 ends a list
abbrev pub walk : ℕ → List Entry → ℕ → List ℕ
walk zero entries entry = []
walk (suc most) entries zero = []
walk (suc most) entries (suc k) = (entry_at entries k).flight ∷ walk most entries (entry_at entries k).next

-- all of them, since each list goes on with an earlier entry
abbrev pub along : List Entry → ℕ → List ℕ
along entries entry = walk entry entries entry

pub record AreLinked (entries : List Entry) : Type 0 where
  pub back : (k : ℕ) → (entry_at entries k).next ≤ k

abbrev pub head_of : Slots → ℕ → ℕ
head_of held slot = slice_index_or held.heads.items slot 0

-- the flights in a slot
abbrev pub in_list : Slots → ℕ → List ℕ
in_list held slot = along held.entries.items (head_of held slot)

-- those in the slot of a departure
abbrev pub listed : Slots → Departure → List ℕ
listed held d = in_list held (slot_of d (length held.heads.items))

-- there is a slot, and each list is one of entries that are there
pub record IsInside (held : Slots) : Type 0 where
  pub some : 0 < length held.heads.items
  pub heads : (slot : ℕ) → head_of held slot ≤ length held.entries.items
  pub linked : AreLinked held.entries.items

-- ---- the place that is found

-- the leg departs where and when it is wanted
abbrev pub departs : DatedLeg → Wanted → Bool
departs leg w = (leg.day == w.day) && pointwise nat_eq leg.board w.board

-- the number and the suffix that are wanted
abbrev pub is_wanted : Wanted → ℕ → Option ℕ → Bool
is_wanted w number suffix = (number == w.number) && option_eq nat_eq suffix w.suffix

abbrev pub has_name : Wanted → Option Flight → Bool
has_name w None = false
has_name w (Some flight) = is_wanted w flight.number flight.suffix

abbrev pub place_of : ℕ → Wanted → Option Flight → Option Place
place_of n wanted None = None
place_of n wanted (Some flight) = lookup (λ w. same_wanted w wanted) (places_from flight n 0 flight.legs)

-- the first place on flight n that serves what is wanted
abbrev pub place_on : List Flight → ℕ → Wanted → Option Place
place_on flights n wanted = place_of n wanted (slice_get flights n)

-- the first place on the first of these flights that has one
abbrev pub place_among : List Flight → List ℕ → Wanted → Option Place
place_among flights [] wanted = None
place_among flights (n ∷ numbers) wanted = option_or (place_on flights n wanted) (place_among flights numbers wanted)

-- the new slots have flight n first in these, and the others are as they were
pub record PutsFirst (old new : Slots) (n : ℕ) (is : ℕ → Bool) : Type 0 where
  pub inside : IsInside new
  pub slots : length new.heads.items ≡ length old.heads.items
  pub at : (flights : List Flight) (wanted : Wanted) (slot : ℕ) → slot < length old.heads.items
      → place_among flights (in_list new slot) wanted
      ≡ (if is slot then option_or (place_on flights n wanted) (place_among flights (in_list old slot) wanted)
      else place_among flights (in_list old slot) wanted)

-- who looks at the listed flights alone finds the first place on the flights from n on
pub record AreSlotsOf (held : Slots) (flights : List Flight) (n : ℕ) : Type 0 where
  pub inside : IsInside held
  pub at : (wanted : Wanted)
      → place_among flights (listed held (leaving_for wanted)) wanted
      ≡ lookup (λ w. same_wanted w wanted) (places n (drop n flights))
