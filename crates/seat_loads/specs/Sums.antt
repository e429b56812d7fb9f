-- What the legs that are kept come to.
use Rattle.std.specs.Prelude.{◌≡◌, ◌≤◌, ℕ, ◌+◌, ◌*◌, ◌==◌, ◌&&◌, ◌||◌, Bool, false, if◌then◌else◌, List, [], ◌∷◌, ◌++◌, decimal, codes}
use Rattle.std.specs.List.{sum_by}
use Rattle.ssim_flights.specs.declared.flight.DatedLeg.{DatedLeg}
use Rattle.ssim_flights.specs.declared.flight.Flight.{Flight as Flown}
use Rattle.seat_rules.specs.Bookings.{is_held, is_waiting}
use Rattle.seat_rules.specs.Flights.{bookings_on}
use Rattle.seat_rules.specs.Sequential.{State}
use Rattle.seat_rules.specs.declared.booking.Booking.{Booking}
use Rattle.seat_rules.specs.declared.booking.Status.{Status}
use Rattle.seat_questions.specs.Why.{has_leg}
use Rattle.seat_lists.specs.Picking.{keeps_flight}
use Rattle.seat_loads.specs.Legs.{is_kept, held_on, limit_on, share_text}
use Rattle.seat_loads.specs.declared.loads.LoadsOf.{LoadsOf}
use Rattle.seat_loads.specs.declared.passengers.Riders.{Riders}
use Rattle.seat_loads.specs.declared.sums.LegSums.{LegSums}
use Rattle.seat_loads.specs.declared.sums.Sums.{Sums}

-- the sum over a list whose items are counted from i
abbrev pub sum_from : {A : Type 0} → (ℕ → A → ℕ) → ℕ → List A → ℕ
sum_from count i [] = 0
sum_from count i (x ∷ xs) = count i x + sum_from count (i + 1) xs

-- ---- seats, leg by leg

-- a number of a leg, where the leg is kept
abbrev pub on_leg : LoadsOf → (ℕ → ℕ → ℕ) → ℕ → ℕ → DatedLeg → ℕ
on_leg asked count i j leg = (if is_kept asked leg then count i j else 0)

-- over the kept legs of a flight, where the flight is kept, and of all flights
abbrev pub on_legs : LoadsOf → (ℕ → ℕ → ℕ) → ℕ → Flown → ℕ
on_legs asked count i flight = sum_from (on_leg asked count i) 0 flight.legs

abbrev pub on_flight : LoadsOf → (ℕ → ℕ → ℕ) → ℕ → Flown → ℕ
on_flight asked count i flight = (if keeps_flight asked.flight flight then on_legs asked count i flight else 0)

abbrev pub over_legs : LoadsOf → (ℕ → ℕ → ℕ) → List Flown → ℕ
over_legs asked count flights = sum_from (on_flight asked count) 0 flights

abbrev pub one : ℕ → ℕ → ℕ
one i j = 1

-- ---- passengers, booking by booking

-- the leg is one of the booking's, and kept
abbrev pub meets : LoadsOf → Booking → ℕ → DatedLeg → Bool
meets asked b j leg = has_leg b.place j && is_kept asked leg

-- the booking is on one of these legs, counted from j, that is kept
abbrev pub is_on : LoadsOf → Booking → ℕ → List DatedLeg → Bool
is_on asked b j [] = false
is_on asked b j (leg ∷ legs) = meets asked b j leg || is_on asked b (j + 1) legs

-- its seats, where it counts and is on a leg that is kept: once, however many legs it has
abbrev pub rides : LoadsOf → Bool → List DatedLeg → Booking → ℕ
rides asked counts legs b = (if counts && is_on asked b 0 legs then b.seats else 0)

-- those of the bookings whose status passes the test
abbrev pub seats_among : LoadsOf → (Status → Bool) → List DatedLeg → List Booking → ℕ
seats_among asked test legs bookings = sum_by (λ b. rides asked (test b.status) legs b) bookings

-- of a flight's own bookings, where the flight is kept
abbrev pub riders_on : LoadsOf → (Status → Bool) → State → ℕ → Flown → ℕ
riders_on asked test s i flight =
    (if keeps_flight asked.flight flight then seats_among asked test flight.legs (bookings_on i s.bookings) else 0)

abbrev pub riders_of : LoadsOf → (Status → Bool) → State → List Flown → ℕ
riders_of asked test s flights = sum_from (riders_on asked test s) 0 flights

-- ---- all of them

-- how many legs are kept, the seats that are held on them, and the limits of their highest classes
pub record AreLegSums (asked : LoadsOf) (s : State) (flights : List Flown) (sums : LegSums) : Type 0 where
  pub legs : sums.legs ≡ over_legs asked one flights
  pub seats : sums.seats ≡ over_legs asked (held_on s) flights
  pub limits : sums.limits ≡ over_legs asked (limit_on s) flights

-- the passengers whose seats are held on any of them, and those who wait for any
pub record AreRiders (asked : LoadsOf) (s : State) (flights : List Flown) (riders : Riders) : Type 0 where
  pub held : riders.held ≡ riders_of asked is_held s flights
  pub waiting : riders.waiting ≡ riders_of asked is_waiting s flights

pub record AreSums (asked : LoadsOf) (s : State) (flights : List Flown) (sums : Sums) : Type 0 where
  pub legs : AreLegSums asked s flights sums.legs
  pub riders : AreRiders asked s flights sums.riders

-- SUMS legs N HELD/LIMIT SHARE passengers N waiting N
abbrev pub sums_text : Sums → List ℕ
sums_text sums =
    codes "SUMS legs " ++ decimal sums.legs.legs ++ codes " seats " ++ share_text sums.legs.seats sums.legs.limits
    ++ codes " passengers " ++ decimal sums.riders.held ++ codes " waiting " ++ decimal sums.riders.waiting ++ 10 ∷ []

-- ---- a leg, a flight

-- a leg alone, with no more seats than 16 bits say
pub record IsLegSum (asked : LoadsOf) (s : State) (i j : ℕ) (leg : DatedLeg) (sums : LegSums) : Type 0 where
  pub legs : sums.legs ≡ on_leg asked one i j leg
  pub seats : sums.seats ≡ on_leg asked (held_on s) i j leg
  pub limits : sums.limits ≡ on_leg asked (limit_on s) i j leg
  pub one_leg : sums.legs ≤ 1
  pub few_seats : sums.seats ≤ 65535
  pub few_limits : sums.limits ≤ 65535

-- those of a flight of at most eight of them, kept or not
pub record IsLegSumOfLegs (asked : LoadsOf) (s : State) (i : ℕ) (flight : Flown) (sums : LegSums) : Type 0 where
  pub legs : sums.legs ≡ on_legs asked one i flight
  pub seats : sums.seats ≡ on_legs asked (held_on s) i flight
  pub limits : sums.limits ≡ on_legs asked (limit_on s) i flight
  pub few_legs : sums.legs ≤ 8
  pub few_seats : sums.seats ≤ 524_280
  pub few_limits : sums.limits ≤ 524_280

-- and where it is kept
pub record IsLegSumOfFlight (asked : LoadsOf) (s : State) (i : ℕ) (flight : Flown) (sums : LegSums) : Type 0 where
  pub legs : sums.legs ≡ on_flight asked one i flight
  pub seats : sums.seats ≡ on_flight asked (held_on s) i flight
  pub limits : sums.limits ≡ on_flight asked (limit_on s) i flight
  pub few_legs : sums.legs ≤ 8
  pub few_seats : sums.seats ≤ 524_280
  pub few_limits : sums.limits ≤ 524_280

-- at most 100,000 such flights
pub record AreFewLegs (sums : LegSums) : Type 0 where
  pub legs : sums.legs ≤ 800_000
  pub seats : sums.seats ≤ 52_428_000_000
  pub limits : sums.limits ≤ 52_428_000_000

-- the most passengers of 999,999 bookings
abbrev pub most_riders : ℕ
most_riders = 65_534_934_465

pub record AreRidersOn (asked : LoadsOf) (s : State) (i : ℕ) (flight : Flown) (riders : Riders) : Type 0 where
  pub held : riders.held ≡ riders_on asked is_held s i flight
  pub waiting : riders.waiting ≡ riders_on asked is_waiting s i flight
  pub few_held : riders.held ≤ most_riders
  pub few_waiting : riders.waiting ≤ most_riders

-- sums of two
pub record AddUp (a b sum : LegSums) : Type 0 where
  pub legs : sum.legs ≡ a.legs + b.legs
  pub seats : sum.seats ≡ a.seats + b.seats
  pub limits : sum.limits ≡ a.limits + b.limits
