-- The tables of sums: a row for each flight, for each leg, for each day, for each pair of stations, or for each class, that is kept.
use Rattle.std.specs.Prelude.{ℕ, zero, suc, ◌+◌, ◌-◌, ◌==◌, ◌&&◌, min, max, nat_lt, Bool, if◌then◌else◌, List, [], ◌∷◌, ◌++◌, codes, Some}
use Rattle.std.specs.List.{list_any, sum_by}
use Rattle.ssim_flights.specs.declared.flight.DatedLeg.{DatedLeg}
use Rattle.ssim_flights.specs.declared.flight.Flight.{Flight as Flown}
use Rattle.seat_journal.specs.declared.entry.Entry.{Entry}
use Rattle.seat_nesting.specs.Nesting.{Ladders, has_class, ladder_at}
use Rattle.seat_rules.specs.Bookings.{is_held, is_waiting}
use Rattle.seat_rules.specs.Flights.{bookings_on}
use Rattle.seat_rules.specs.Journal.{replay}
use Rattle.seat_rules.specs.Sequential.{State}
use Rattle.seat_rules.specs.declared.booking.Booking.{Booking}
use Rattle.seat_rules.specs.declared.booking.Status.{Status}
use Rattle.seat_questions.specs.Rooms.{keeps_day, keeps_pair}
use Rattle.seat_questions.specs.Why.{has_leg}
use Rattle.seat_questions.specs.declared.rooms.CityPair.{CityPair}
use Rattle.seat_lists.specs.Picking.{keeps_flight}
use Rattle.seat_loads.specs.Legs.{held_on, is_kept, limit_on, share}
use Rattle.seat_loads.specs.Sums.{on_flight, one, over_legs, riders_of, riders_on}
use Rattle.seat_loads.specs.declared.loads.LoadsOf.{LoadsOf}
use Rattle.seat_loads.specs.declared.passengers.Riders.{Riders}
use Rattle.seat_loads.specs.declared.sums.LegSums.{LegSums}
use Rattle.seat_loads.specs.declared.sums.Sums.{Sums}
use Rattle.seat_tables.specs.Rows.{rows_from}
use Rattle.seat_tables.specs.declared.cell.Cell.{Cell}
use Rattle.seat_tables.specs.declared.cell.Cell.TheVariants.{Number, Date, Stop, Letter, Flight}
use Rattle.table_questions.specs.Tables.{kept_rows}
use Rattle.table_questions.specs.declared.by_class.Count.{Count}
use Rattle.table_questions.specs.declared.by_class.Count.TheVariants.{Legs, Held, Waits}

-- ---- flight by flight

abbrev pub flight_names : List (List ℕ)
flight_names =
    codes "flight" ∷ codes "designator" ∷ codes "legs" ∷ codes "limit" ∷ codes "held" ∷ codes "share" ∷ codes "passengers"
    ∷ codes "waiting" ∷ []

-- its kept legs, the sum of their highest limits and of the seats that are held on them, what part of those limits that is, and the
-- passengers on any of them and who wait for any: a passenger over two legs is two seats and one passenger
abbrev pub sums_row : LoadsOf → State → ℕ → Flown → List Cell
sums_row asked s i flight =
    Number i ∷ Flight flight.airline flight.number flight.suffix ∷ Number (on_flight asked one i flight)
    ∷ Number (on_flight asked (limit_on s) i flight) ∷ Number (on_flight asked (held_on s) i flight)
    ∷ Number (share (on_flight asked (held_on s) i flight) (on_flight asked (limit_on s) i flight))
    ∷ Number (riders_on asked is_held s i flight) ∷ Number (riders_on asked is_waiting s i flight) ∷ []

-- the same of sums that are known
abbrev pub cells_of : ℕ → Flown → LegSums → Riders → List Cell
cells_of i flight legs riders =
    Number i ∷ Flight flight.airline flight.number flight.suffix ∷ Number legs.legs ∷ Number legs.limits ∷ Number legs.seats
    ∷ Number (share legs.seats legs.limits) ∷ Number riders.held ∷ Number riders.waiting ∷ []

-- a flight of which no leg is kept has no row
abbrev pub sums_of_flight : LoadsOf → State → ℕ → Flown → List (List Cell)
sums_of_flight asked s i flight = kept_rows (nat_lt 0 (on_flight asked one i flight)) (sums_row asked s i flight ∷ [])

abbrev pub flight_sums : LoadsOf → List Flown → Ladders → List Entry → List (List Cell)
flight_sums asked flights grid journal = rows_from (sums_of_flight asked (replay grid journal)) 0 flights

-- ---- leg by leg

abbrev pub leg_names : List (List ℕ)
leg_names =
    codes "flight" ∷ codes "designator" ∷ codes "day" ∷ codes "board" ∷ codes "off" ∷ codes "limit" ∷ codes "held"
    ∷ codes "share" ∷ codes "waiting" ∷ []

-- the seats of a booking that waits for the leg
abbrev pub waits_for : ℕ → Booking → ℕ
waits_for j b = (if is_waiting b.status && has_leg b.place j then b.seats else 0)

abbrev pub waiting_on : State → ℕ → ℕ → ℕ
waiting_on s i j = sum_by (waits_for j) (bookings_on i s.bookings)

-- the limit of its highest class, the seats that are held on it, what part of the limit that is, and the seats that wait for it
abbrev pub leg_row : State → ℕ → Flown → ℕ → DatedLeg → List Cell
leg_row s i flight j leg =
    Number i ∷ Flight flight.airline flight.number flight.suffix ∷ Date leg.day ∷ Stop leg.board ∷ Stop leg.off
    ∷ Number (limit_on s i j) ∷ Number (held_on s i j) ∷ Number (share (held_on s i j) (limit_on s i j))
    ∷ Number (waiting_on s i j) ∷ []

abbrev pub sums_of_leg : LoadsOf → State → ℕ → Flown → ℕ → DatedLeg → List (List Cell)
sums_of_leg asked s i flight j leg = kept_rows (is_kept asked leg) (leg_row s i flight j leg ∷ [])

abbrev pub legs_of_flight : LoadsOf → State → ℕ → Flown → List (List Cell)
legs_of_flight asked s i flight =
    kept_rows (keeps_flight asked.flight flight) (rows_from (sums_of_leg asked s i flight) 0 flight.legs)

abbrev pub leg_sums : LoadsOf → List Flown → Ladders → List Entry → List (List Cell)
leg_sums asked flights grid journal = rows_from (legs_of_flight asked (replay grid journal)) 0 flights

-- ---- day by day

abbrev pub day_names : List (List ℕ)
day_names =
    codes "day" ∷ codes "legs" ∷ codes "limit" ∷ codes "held" ∷ codes "share" ∷ codes "passengers" ∷ codes "waiting" ∷ []

-- the same question of one day alone
abbrev pub on_day : LoadsOf → ℕ → LoadsOf
on_day asked day = record asked { day = Some day }

-- what the kept legs come to that depart on the day: a passenger over legs of two days counts on both
abbrev pub day_row : LoadsOf → State → List Flown → ℕ → List Cell
day_row asked s flights day =
    Date day ∷ Number (over_legs asked one flights) ∷ Number (over_legs asked (limit_on s) flights)
    ∷ Number (over_legs asked (held_on s) flights)
    ∷ Number (share (over_legs asked (held_on s) flights) (over_legs asked (limit_on s) flights))
    ∷ Number (riders_of asked is_held s flights) ∷ Number (riders_of asked is_waiting s flights) ∷ []

-- the same of sums that are known
abbrev pub day_cells : ℕ → Sums → List Cell
day_cells day sums =
    Date day ∷ Number sums.legs.legs ∷ Number sums.legs.limits ∷ Number sums.legs.seats
    ∷ Number (share sums.legs.seats sums.legs.limits) ∷ Number sums.riders.held ∷ Number sums.riders.waiting ∷ []

-- a day that is not kept, or on which no leg departs that is, has no row
abbrev pub sums_of_day : LoadsOf → State → List Flown → ℕ → List (List Cell)
sums_of_day asked s flights day =
    kept_rows (keeps_day asked.day day && nat_lt 0 (over_legs (on_day asked day) one flights))
    (day_row (on_day asked day) s flights day ∷ [])

-- the earliest day of legs, or this one
abbrev pub earliest : ℕ → List DatedLeg → ℕ
earliest day [] = day
earliest day (leg ∷ legs) = earliest (min day leg.day) legs

abbrev pub earliest_of : ℕ → List Flown → ℕ
earliest_of day [] = day
earliest_of day (flight ∷ flights) = earliest_of (earliest day flight.legs) flights

-- the latest
abbrev pub latest : ℕ → List DatedLeg → ℕ
latest day [] = day
latest day (leg ∷ legs) = latest (max day leg.day) legs

abbrev pub latest_of : ℕ → List Flown → ℕ
latest_of day [] = day
latest_of day (flight ∷ flights) = latest_of (latest day flight.legs) flights

-- the rows of so many numbers from one on
abbrev pub rows_of_each : (ℕ → List (List Cell)) → ℕ → ℕ → List (List Cell)
rows_of_each rows zero first = []
rows_of_each rows (suc n) first = rows first ++ rows_of_each rows n (first + 1)

-- from the earliest day on which a leg departs to the latest; a day's number is at most 84,005
abbrev pub days_from : List Flown → ℕ
days_from flights = earliest_of 84005 flights

abbrev pub day_count : List Flown → ℕ
day_count flights = latest_of 0 flights + 1 - days_from flights

abbrev pub day_sums : LoadsOf → List Flown → Ladders → List Entry → List (List Cell)
day_sums asked flights grid journal =
    rows_of_each (sums_of_day asked (replay grid journal) flights) (day_count flights) (days_from flights)

-- ---- pair by pair

abbrev pub pair_names : List (List ℕ)
pair_names =
    codes "board" ∷ codes "off" ∷ codes "legs" ∷ codes "limit" ∷ codes "held" ∷ codes "share" ∷ codes "passengers"
    ∷ codes "waiting" ∷ []

abbrev pub pair_of : DatedLeg → CityPair
pair_of leg = record { board = leg.board; off = leg.off }

-- the same question of one pair alone
abbrev pub on_pair : LoadsOf → CityPair → LoadsOf
on_pair asked pair = record asked { pair = Some pair }

-- what the kept legs come to that run between these stations
abbrev pub pair_row : LoadsOf → State → List Flown → CityPair → List Cell
pair_row asked s flights pair =
    Stop pair.board ∷ Stop pair.off ∷ Number (over_legs asked one flights) ∷ Number (over_legs asked (limit_on s) flights)
    ∷ Number (over_legs asked (held_on s) flights)
    ∷ Number (share (over_legs asked (held_on s) flights) (over_legs asked (limit_on s) flights))
    ∷ Number (riders_of asked is_held s flights) ∷ Number (riders_of asked is_waiting s flights) ∷ []

-- the same of sums that are known
abbrev pub pair_cells : CityPair → Sums → List Cell
pair_cells pair sums =
    Stop pair.board ∷ Stop pair.off ∷ Number sums.legs.legs ∷ Number sums.legs.limits ∷ Number sums.legs.seats
    ∷ Number (share sums.legs.seats sums.legs.limits) ∷ Number sums.riders.held ∷ Number sums.riders.waiting ∷ []

-- a pair between which no kept leg runs has no row
abbrev pub sums_of_pair : LoadsOf → State → List Flown → ℕ → CityPair → List (List Cell)
sums_of_pair asked s flights k pair =
    kept_rows (nat_lt 0 (over_legs (on_pair asked pair) one flights)) (pair_row (on_pair asked pair) s flights pair ∷ [])

-- the pairs of these and of a leg, each once
abbrev pub with_pair : List CityPair → DatedLeg → List CityPair
with_pair pairs leg = (if list_any (λ p. keeps_pair (Some p) leg) pairs then pairs else pairs ++ pair_of leg ∷ [])

abbrev pub with_legs : (DatedLeg → Bool) → List CityPair → List DatedLeg → List CityPair
with_legs keeps pairs [] = pairs
with_legs keeps pairs (leg ∷ legs) = with_legs keeps (if keeps leg then with_pair pairs leg else pairs) legs

abbrev pub with_flights : LoadsOf → List CityPair → List Flown → List CityPair
with_flights asked pairs [] = pairs
with_flights asked pairs (flight ∷ flights) = with_flights asked (with_legs (is_kept asked) pairs flight.legs) flights

-- in the order in which the first kept leg of each stands
abbrev pub pair_sums : LoadsOf → List Flown → Ladders → List Entry → List (List Cell)
pair_sums asked flights grid journal =
    rows_from (sums_of_pair asked (replay grid journal) flights) 0 (with_flights asked [] flights)

-- ---- class by class

abbrev pub class_names : List (List ℕ)
class_names = codes "class" ∷ codes "legs" ∷ codes "held" ∷ codes "waiting" ∷ []

-- the seats of a booking that counts, on the leg and in the class
abbrev pub counted : Bool → ℕ → ℕ → Booking → ℕ
counted counts j class b = (if counts && has_leg b.place j && (b.class == class) then b.seats else 0)

abbrev pub seats_in : (Status → Bool) → ℕ → ℕ → Booking → ℕ
seats_in test j class b = counted (test b.status) j class b

-- a number of a class on a leg: 1 where the leg has the class, the seats that are held in it, or those that wait
abbrev pub class_count : Count → State → ℕ → ℕ → ℕ → ℕ
class_count Legs s class i j = (if has_class (ladder_at s.grid i j) class then 1 else 0)
class_count Held s class i j = sum_by (seats_in is_held j class) (bookings_on i s.bookings)
class_count Waits s class i j = sum_by (seats_in is_waiting j class) (bookings_on i s.bookings)

-- the kept legs that have the class, and the seats that are held in it and that wait, over the kept legs: a booking over two of them counts
-- on both
abbrev pub class_row : LoadsOf → State → List Flown → ℕ → List Cell
class_row asked s flights class =
    Letter class ∷ Number (over_legs asked (class_count Legs s class) flights)
    ∷ Number (over_legs asked (class_count Held s class) flights)
    ∷ Number (over_legs asked (class_count Waits s class) flights) ∷ []

-- a class that no kept leg has has no row
abbrev pub sums_of_class : LoadsOf → State → List Flown → ℕ → List (List Cell)
sums_of_class asked s flights class =
    kept_rows (nat_lt 0 (over_legs asked (class_count Legs s class) flights)) (class_row asked s flights class ∷ [])

-- from A to Z
unfoldable pub class_sums : LoadsOf → List Flown → Ladders → List Entry → List (List Cell)
class_sums asked flights grid journal = rows_of_each (sums_of_class asked (replay grid journal) flights) 26 65
