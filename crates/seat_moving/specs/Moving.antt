-- Where live bookings go when a schedule changes: onto the place of the new flights that has the name of their own.
use Rattle.std.specs.Prelude.{ℕ, ◌-◌, nat_lt, Bool, false, List, flat_map, option_to_list, slice_get, Option, Some, None, if◌then◌else◌}
use Rattle.airline_base.specs.declared.place.Place.{Place}
use Rattle.ssim_flights.specs.Places.{place_wanted, wish}
use Rattle.ssim_flights.specs.declared.flight.DatedLeg.{DatedLeg}
use Rattle.ssim_flights.specs.declared.flight.Flight.{Flight as Flown}
use Rattle.ssim_flights.specs.declared.flight.Wanted.{Wanted}
use Rattle.seat_journal.specs.declared.entry.Entry.{Entry}
use Rattle.seat_rules.specs.Bookings.{same_place}
use Rattle.seat_rules.specs.declared.booking.Booking.{Booking}
use Rattle.seat_carrying.specs.declared.owned.Owned.{Owned}
use Rattle.seat_moving.specs.declared.target.Target.{Target}
use Rattle.seat_moving.specs.declared.target.Target.TheVariants.{Departed, Lost, Onto}

-- ---- names

abbrev pub named : Flown → Option DatedLeg → Option DatedLeg → Option Wanted
named flight None last = None
named flight (Some first) None = None
named flight (Some first) (Some last) = Some (wish flight first last)

abbrev pub name_on : Option Flown → Place → Option Wanted
name_on None p = None
name_on (Some flight) p = named flight (slice_get flight.legs p.from) (slice_get flight.legs p.to)

-- what passengers call a place: its flight, the local day and the station of its first leg, and the station where its last one arrives
abbrev pub name_of : List Flown → Place → Option Wanted
name_of flights p = name_on (slice_get flights p.flight) p

-- ---- targets

abbrev pub is_very : Place → Option Place → Bool
is_very p None = false
is_very p (Some found) = same_place found p

abbrev pub onto : Option Place → Target
onto None = Lost
onto (Some p) = Onto p

-- what departed before today goes nowhere, nor what its own flights find elsewhere by its name (only a journal that was made by hand has bookings there)
abbrev pub target_by : List Flown → List Flown → ℕ → Place → Option Wanted → Target
target_by old new today p None = Lost
target_by old new today p (Some name) =
    (if nat_lt name.day today then Departed
    else (if is_very p (place_wanted old name) then onto (place_wanted new name) else Lost))

-- where the bookings of a place of the old flights go on the new ones
abbrev pub target : List Flown → List Flown → ℕ → Place → Target
target old new today p = target_by old new today p (name_of old p)

-- ---- bookings

abbrev pub session_in : Option Entry → ℕ
session_in None = 0
session_in (Some line) = line.session

-- the session of the line that made a booking; 0 where there is no such line
abbrev pub session_of : List Entry → Booking → ℕ
session_of journal b = session_in (slice_get journal (b.number - 1))

abbrev pub moved_to : ℕ → Booking → Target → Option Owned
moved_to session b Departed = None
moved_to session b Lost = None
moved_to session b (Onto p) = Some (record { session = session; booking = record b { place = p } })

-- a booking on its new place, with the session that made it, where there is such a place
abbrev pub moved_by : List Entry → List Flown → List Flown → ℕ → Booking → Option Owned
moved_by journal old new today b = moved_to (session_of journal b) b (target old new today b.place)

-- those that go anywhere, in their order
abbrev pub moved : List Entry → List Flown → List Flown → ℕ → List Booking → List Owned
moved journal old new today bookings = flat_map (λ b. option_to_list (moved_by journal old new today b)) bookings
