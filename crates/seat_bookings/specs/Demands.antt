-- The demands of a waiting list: what waits for each place and class, kept beside the bookings.
use Rattle.std.specs.Prelude.{◌≡◌, ℕ, ◌==◌, ◌&&◌, ◌+◌, ◌-◌, ◌<◌, ◌≤◌, ◌^◌, nat_le, nat_lt, min, drop, Bool, true, false, List, [], ◌∷◌, Option, Some, None, if◌then◌else◌}
use Rattle.std.specs.List.{AllByRecursion, list_any, prefix_len}
use Rattle.airline_base.specs.declared.place.Place.{Place}
use Rattle.seat_nesting.specs.Nesting.{Ladders, Table, room, covers}
use Rattle.seat_rules.specs.declared.booking.Booking.{Booking}
use Rattle.seat_bookings.specs.declared.demands.Demand.{Demand}
use Rattle.seat_rules.specs.Applying.{IsOrdered}
use Rattle.seat_rules.specs.Bookings.{same_place, is_waiting}

-- q and c are this place and class
abbrev pub is_at : Place → ℕ → Place → ℕ → Bool
is_at place class q c = same_place q place && (c == class)

abbrev pub is_demand_of : Place → ℕ → Demand → Bool
is_demand_of place class p = is_at place class p.place p.class

abbrev pub is_booking_of : Place → ℕ → Booking → Bool
is_booking_of place class b = is_at place class b.place b.class

-- a booking of this place and class with so many seats
abbrev pub is_party_of : Place → ℕ → ℕ → Booking → Bool
is_party_of place class seats b = is_booking_of place class b && (b.seats == seats)

-- no two demands are of one place and class
abbrev pub is_apart : List Demand → Bool
is_apart [] = true
is_apart (p ∷ ps) = (if list_any (is_demand_of p.place p.class) ps then false else is_apart ps)

-- ---- what the bookings of a place and class ask for

abbrev pub least_with : ℕ → Option ℕ → Option ℕ
least_with n None = Some n
least_with n (Some m) = Some (min n m)

-- the least seats of a booking
abbrev pub smallest_of : Place → ℕ → List Booking → Option ℕ
smallest_of place class [] = None
smallest_of place class (b ∷ bs) =
    (if is_booking_of place class b then least_with b.seats (smallest_of place class bs)
    else smallest_of place class bs)

-- the number of the first booking
abbrev pub next_of : Place → ℕ → List Booking → Option ℕ
next_of place class [] = None
next_of place class (b ∷ bs) = (if is_booking_of place class b then Some b.number else next_of place class bs)

-- the number of the first with so many seats
abbrev pub next_party : Place → ℕ → ℕ → List Booking → Option ℕ
next_party place class seats [] = None
next_party place class seats (b ∷ bs) =
    (if is_party_of place class seats b then Some b.number else next_party place class seats bs)

-- all their seats
abbrev pub seats_for : Place → ℕ → List Booking → ℕ
seats_for place class [] = 0
seats_for place class (b ∷ bs) =
    (if is_booking_of place class b then b.seats + seats_for place class bs else seats_for place class bs)

-- ---- what their demand tells

abbrev pub demand_smallest : Place → ℕ → List Demand → Option ℕ
demand_smallest place class [] = None
demand_smallest place class (p ∷ ps) =
    (if is_demand_of place class p then Some p.smallest else demand_smallest place class ps)

abbrev pub demand_first : Place → ℕ → List Demand → Option ℕ
demand_first place class [] = None
demand_first place class (p ∷ ps) =
    (if is_demand_of place class p then Some p.first else demand_first place class ps)

abbrev pub demand_near : Place → ℕ → List Demand → Option ℕ
demand_near place class [] = None
demand_near place class (p ∷ ps) =
    (if is_demand_of place class p then Some p.near else demand_near place class ps)

abbrev pub demand_seats : Place → ℕ → List Demand → ℕ
demand_seats place class [] = 0
demand_seats place class (p ∷ ps) = (if is_demand_of place class p then p.seats else demand_seats place class ps)

-- a number is noted, and n is not below it
abbrev pub IsReached : Option ℕ → ℕ → Type 0
IsReached None n = ⊥
IsReached (Some m) n = m ≤ n

-- the bookings stand in order of number and all wait, and for each place and class there is one demand, with a number that none of them is below, one that none with their least seats is below, their least seats and the sum of their seats, or none where no booking is
pub record IsIndexed (bookings : List Booking) (demands : List Demand) : Type 0 where
  pub ordered : IsOrdered bookings
  pub waits : AllByRecursion (λ b. is_waiting b.status ≡ true) bookings
  pub small : AllByRecursion (λ b. b.seats < 65536) bookings
  pub apart : is_apart demands ≡ true
  pub begins : AllByRecursion (λ b. IsReached (demand_first b.place b.class demands) b.number) bookings
  pub nears : AllByRecursion (λ b. demand_smallest b.place b.class demands ≡ Some b.seats
      → IsReached (demand_near b.place b.class demands) b.number) bookings
  pub smallest : (place : Place) (class : ℕ) → demand_smallest place class demands ≡ smallest_of place class bookings
  pub seats : (place : Place) (class : ℕ) → demand_seats place class demands ≡ seats_for place class bookings

-- there is a number and memory for one booking more, and memory for its demand
abbrev pub has_spare : ℕ → Bool → ℕ → ℕ → Bool
has_spare bookings spare demands memory = nat_lt bookings (2 ^ 32) && spare && nat_lt demands memory

-- ---- what the demands answer

-- the seats of a demand on a leg in a class
abbrev pub demand_waits : ℕ → ℕ → ℕ → Demand → ℕ
demand_waits flight leg class p = (if covers flight leg p.place && (p.class == class) then p.seats else 0)

-- the seats that wait on each leg in each class
abbrev pub waits_of : List Demand → Table
waits_of [] flight leg class = 0
waits_of (p ∷ ps) flight leg class = demand_waits flight leg class p + waits_of ps flight leg class

-- where the bookings of a demand begin that have at most so many seats, which are at least its least
abbrev pub start_of : Demand → ℕ → ℕ
start_of p left = (if nat_le left p.smallest then p.near else p.first)

-- the least of a number and that at which a demand begins, where so many seats are left for its smallest
abbrev pub first_with : Demand → ℕ → Option ℕ → Option ℕ
first_with p left other = (if nat_le p.smallest left then least_with (start_of p left) other else other)

-- the least number at which a demand begins whose smallest is at most the room on its place in its class
abbrev pub first_fitting : Ladders → Table → List Demand → Option ℕ
first_fitting grid seats [] = None
first_fitting grid seats (p ∷ ps) = first_with p (room grid seats p.place p.class) (first_fitting grid seats ps)

-- ---- changes

-- where the smallest of a demand begin, once a booking of this number has n seats
abbrev pub nearer : ℕ → ℕ → Demand → ℕ
nearer number n p = (if nat_lt n p.smallest then number else min number p.near)

abbrev pub demand_nearer : Place → ℕ → ℕ → ℕ → List Demand → Option ℕ
demand_nearer place class number n [] = None
demand_nearer place class number n (p ∷ ps) =
    (if is_demand_of place class p then Some (nearer number n p) else demand_nearer place class number n ps)

-- a booking of this number and n seats more
abbrev pub joined : List Demand → Place → ℕ → ℕ → ℕ → List Demand
joined [] place class number n =
    record { place = place; class = class; first = number; near = number; smallest = n; seats = n } ∷ []
joined (p ∷ ps) place class number n =
    (if is_demand_of place class p then record p {
      first = min number p.first;
      near = nearer number n p;
      smallest = min n p.smallest;
      seats = p.seats + n;
    } ∷ ps else p ∷ joined ps place class number n)

-- where a demand begins from now on: where it did, or at the next of its bookings
abbrev pub begun : ℕ → Option ℕ → ℕ
begun first None = first
begun first (Some next) = next

-- the next of its bookings, where the one of this number, at which it began, has left
abbrev pub next_first : Option ℕ → ℕ → Option ℕ → Option ℕ
next_first None number next = None
next_first (Some first) number next = (if first == number then next else None)

-- a number that no booking with these least seats is below: where those with the least began, or all of them
abbrev pub demand_from : Place → ℕ → ℕ → List Demand → Option ℕ
demand_from place class least [] = None
demand_from place class least (p ∷ ps) =
    (if is_demand_of place class p then Some (if p.smallest == least then p.near else p.first)
    else demand_from place class least ps)

-- the first booking of these seats from a number on
abbrev pub near_from : Place → ℕ → ℕ → Option ℕ → List Booking → Option ℕ
near_from place class least None queue = None
near_from place class least (Some number) queue =
    next_party place class least (drop (prefix_len (λ b. nat_lt b.number number) queue) queue)

-- the first booking of the least seats that are left
abbrev pub near_left : Place → ℕ → Option ℕ → List Demand → List Booking → Option ℕ
near_left place class None demands queue = None
near_left place class (Some least) demands queue =
    near_from place class least (demand_from place class least demands) queue

-- the demand has n seats fewer, this smallest, and begins there, and its smallest there; it goes where there is no smallest
abbrev pub with_smallest : Demand → Option ℕ → Option ℕ → Option ℕ → ℕ → List Demand → List Demand
with_smallest p None next close n ps = ps
with_smallest p (Some m) next close n ps =
    record p { first = begun p.first next; near = begun p.near close; smallest = m; seats = p.seats - n } ∷ ps

abbrev pub settled : List Demand → Place → ℕ → Option ℕ → Option ℕ → Option ℕ → ℕ → List Demand
settled [] place class smallest next close n = []
settled (p ∷ ps) place class smallest next close n =
    (if is_demand_of place class p then with_smallest p smallest next close n ps
    else p ∷ settled ps place class smallest next close n)
