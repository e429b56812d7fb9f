-- What becomes of the flights of two seasons on the days that both have.
use Rattle.std.specs.Prelude.{ℕ, ◌+◌, nat_le, Bool, not, ◌&&◌, if◌then◌else◌, List, [], ◌∷◌, ◌++◌, Option, Some, None}
use Rattle.ssim_flights.specs.declared.flight.DatedLeg.{DatedLeg}
use Rattle.ssim_flights.specs.declared.flight.Flight.{Flight as Flown}
use Rattle.seat_nesting.specs.Nesting.{Ladders}
use Rattle.seat_rules.specs.Bookings.{is_held, is_waiting}
use Rattle.seat_rules.specs.declared.booking.Booking.{Booking}
use Rattle.season_changes.specs.Differing.{differing, ladders_differ, legs_at, same_legs, times_differ}
use Rattle.season_changes.specs.Naming.{name_on, number_from}
use Rattle.season_changes.specs.Seats.{seats_on}
use Rattle.season_changes.specs.declared.changes.Change.{Change}
use Rattle.season_changes.specs.declared.comparing.Comparison.{Comparison}
use Rattle.season_changes.specs.declared.differing.What.{What}
use Rattle.season_changes.specs.declared.differing.What.TheVariants.{Gone, Added, Outside}
use Rattle.season_changes.specs.declared.naming.Name.{Name}

-- both seasons have the day
abbrev pub is_common : Comparison → ℕ → Bool
is_common asked day = nat_le asked.first day && nat_le day asked.last

-- a list of one change, or of none
abbrev pub change_of : Name → ℕ → ℕ → Option What → List Change
change_of name held waiting None = []
change_of name held waiting (Some what) =
    record { name = name; what = what; held = held; waiting = waiting } ∷ []

-- ---- of the old season

-- what becomes of flight i of the old season, whose name flight k of the new one has, or none has
abbrev pub what_becomes : Comparison → Ladders → ℕ → Flown → Option ℕ → Option What
what_becomes asked grid i flight None = Some Gone
what_becomes asked grid i flight (Some k) =
    differing (not (same_legs flight.legs (legs_at asked.flights.now k))) (times_differ flight.legs (legs_at asked.flights.now k))
    (ladders_differ grid i asked.grid.now k 0 flight.legs)

-- of one of this name
unfoldable pub of_compared : Comparison → Ladders → List Booking → ℕ → Flown → Name → List Change
of_compared asked grid bookings i flight name =
    change_of name (seats_on is_held i bookings) (seats_on is_waiting i bookings)
    (what_becomes asked grid i flight (number_from 0 asked.flights.now name))

-- where it begins with this leg
unfoldable pub of_old_on : Comparison → Ladders → List Booking → ℕ → Flown → DatedLeg → List Change
of_old_on asked grid bookings i flight leg =
    (if is_common asked leg.day then of_compared asked grid bookings i flight (name_on flight leg)
    else change_of (name_on flight leg) 0 0 (Some Outside))

abbrev pub of_old_by : List DatedLeg → Comparison → Ladders → List Booking → ℕ → Flown → List Change
of_old_by [] asked grid bookings i flight = []
of_old_by (leg ∷ legs) asked grid bookings i flight = of_old_on asked grid bookings i flight leg

abbrev pub of_old : Comparison → Ladders → List Booking → ℕ → Flown → List Change
of_old asked grid bookings i flight = of_old_by flight.legs asked grid bookings i flight

-- ---- of the new season

-- a flight is added, where none of the old season has its name
abbrev pub what_added : Option ℕ → Option What
what_added None = Some Added
what_added (Some k) = None

-- of one of this name
unfoldable pub of_name : List Flown → Name → List Change
of_name olds name = change_of name 0 0 (what_added (number_from 0 olds name))

-- where it begins with this leg
unfoldable pub of_new_on : Comparison → List Flown → Flown → DatedLeg → List Change
of_new_on asked olds flight leg =
    (if is_common asked leg.day then of_name olds (name_on flight leg) else change_of (name_on flight leg) 0 0 (Some Outside))

abbrev pub of_new_by : List DatedLeg → Comparison → List Flown → Flown → List Change
of_new_by [] asked olds flight = []
of_new_by (leg ∷ legs) asked olds flight = of_new_on asked olds flight leg

abbrev pub of_new : Comparison → List Flown → Flown → List Change
of_new asked olds flight = of_new_by flight.legs asked olds flight

-- ---- of both

-- those of each of these flights, counted from i
abbrev pub each_from : (ℕ → Flown → List Change) → ℕ → List Flown → List Change
each_from of i [] = []
each_from of i (flight ∷ flights) = of i flight ++ each_from of (i + 1) flights

-- those of the old season by its order, and then those of the new one by its own
abbrev pub changes_of : Comparison → List Flown → Ladders → List Booking → List Change
changes_of asked olds grid bookings =
    each_from (of_old asked grid bookings) 0 olds ++ each_from (λ i. of_new asked olds) 0 asked.flights.now
