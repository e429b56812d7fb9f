-- Nested booking limits (Talluri and van Ryzin): ladders, grids, and the room that a table of held seats leaves.
use Rattle.std.specs.Prelude.{◌≢◌, ℕ, zero, suc, ◌+◌, ◌-◌, ◌<◌, ◌≤◌, ◌==◌, ◌&&◌, Bool, false, not, nat_le, min, List, [], ◌∷◌, length, Option, unwrap_or, slice_get, if◌then◌else◌, IsTrue}
use Rattle.std.specs.Char.{is_ascii_uppercase}
use Rattle.std.specs.List.{sum_by, list_any, AllByRecursion}
use Rattle.seat_nesting.specs.declared.ladder.Step.{Step}
use Rattle.airline_base.specs.declared.place.Place.{Place}

-- the steps of a leg, highest rank first; a leg without limits has none
abbrev pub Steps : Type 0
Steps = List Step

-- the steps of each leg of each flight
abbrev pub Ladders : Type 0
Ladders = List (List Steps)

-- the class does not stand in these steps
abbrev pub LacksClass : ℕ → Steps → Type 0
LacksClass class steps = AllByRecursion (λ s. class ≢ s.class) steps

-- the class stands in these steps
abbrev pub has_class : Steps → ℕ → Bool
has_class steps class = list_any (λ s. class == s.class) steps

-- each class is a letter
abbrev pub HasLetters : Steps → Type 0
HasLetters steps = AllByRecursion (λ s. IsTrue (is_ascii_uppercase s.class)) steps

-- no class stands twice
abbrev pub IsDistinct : Steps → Type 0
IsDistinct [] = Unit {0}
IsDistinct (s ∷ lower) = LacksClass s.class lower × IsDistinct lower

-- no limit rises from a rank to the next
abbrev pub IsNotRising : Steps → Type 0
IsNotRising [] = Unit {0}
IsNotRising (s ∷ lower) = AllByRecursion (λ t. t.limit ≤ s.limit) lower × IsNotRising lower

-- a ladder: 1 to 26 steps
pub record IsLadder (steps : Steps) : Type 0 where
  pub some : 0 < length steps
  pub most : length steps ≤ 26
  pub distinct : IsDistinct steps
  pub not_rising : IsNotRising steps
  pub bounded : AllByRecursion (λ s. (s.limit ≤ 999) × (s.wait ≤ 999)) steps

-- the steps of a leg that has a ladder or none
abbrev pub steps_of : Option Steps → Steps
steps_of ladder = unwrap_or ladder []

-- the steps of a flight's leg; none where the leg is not there
abbrev pub steps_at : List Steps → ℕ → Steps
steps_at legs leg = unwrap_or (slice_get legs leg) []

-- the steps of a leg: a ladder, or none
pub record IsLegLadder (steps : Steps) : Type 0 where
  pub most : length steps ≤ 26
  pub distinct : IsDistinct steps
  pub not_rising : IsNotRising steps
  pub bounded : AllByRecursion (λ s. (s.limit ≤ 999) × (s.wait ≤ 999)) steps

abbrev pub legs_of : Ladders → ℕ → List Steps
legs_of grid flight = unwrap_or (slice_get grid flight) []

-- the steps of one leg; none where the flight or the leg is not there
abbrev pub ladder_at : Ladders → ℕ → ℕ → Steps
ladder_at grid flight leg = steps_at (legs_of grid flight) leg

-- the flight and both legs are there
abbrev pub Fits : Ladders → Place → Type 0
Fits grid place = (place.from ≤ place.to) × (place.to < length (legs_of grid place.flight))

-- how many seats are held on a leg in each class
abbrev pub ByClass : Type 0
ByClass = ℕ → ℕ

-- Held(leg, i), where `lower` is the leg's ladder from rank i on: the seats held in rank i and below
abbrev pub held_from : ByClass → Steps → ℕ
held_from seats lower = sum_by (λ s. seats s.class) lower

-- the seats that the limits leave in a class, whether it is open or closed: the least of limit(i) - Held(leg, i) from the highest rank down to it; 0 where it is missing
abbrev pub free_on : Steps → ByClass → ℕ → ℕ
free_on [] seats class = 0
free_on (s ∷ lower) seats class =
    let here = s.limit - held_from seats (s ∷ lower) in
    (if s.class == class then here else min here (free_on lower seats class))

-- Room(leg, r): the least of limit(i) - Held(leg, i) from the highest rank down to the class; 0 where the class is closed or missing. That a class is closed changes the room of no other
abbrev pub room_on : Steps → ByClass → ℕ → ℕ
room_on [] seats class = 0
room_on (s ∷ lower) seats class =
    let here = s.limit - held_from seats (s ∷ lower) in
    (if s.class == class then (if s.closed then 0 else here) else min here (room_on lower seats class))

-- no rank and those below it hold more than its limit
abbrev pub IsWithin : Steps → ByClass → Type 0
IsWithin [] seats = Unit {0}
IsWithin (s ∷ lower) seats = (held_from seats (s ∷ lower) ≤ s.limit) × IsWithin lower seats

-- the least of f over leg `from` and the n legs after it
abbrev pub least : (ℕ → ℕ) → ℕ → ℕ → ℕ
least f from zero = f from
least f from (suc n) = min (least f from n) (f (from + suc n))

-- the seats held by flight, leg and class
abbrev pub Table : Type 0
Table = ℕ → ℕ → ByClass

-- the place covers the leg
abbrev pub covers : ℕ → ℕ → Place → Bool
covers flight leg place = (place.flight == flight) && nat_le place.from leg && nat_le leg place.to

-- n seats on each leg of a place in a class
abbrev pub seats_at : Place → ℕ → ℕ → Table
seats_at place class n flight leg k = (if covers flight leg place && (class == k) then n else 0)

-- Room(place, class): the least over the legs of the place
abbrev pub room : Ladders → Table → Place → ℕ → ℕ
room grid seats place class =
    (if nat_le place.from place.to
    then least (λ leg. room_on (ladder_at grid place.flight leg) (seats place.flight leg) class) place.from
    (place.to - place.from)
    else 0)

-- the seats that the limits leave on a place in a class, whether it is open or closed: the least over the legs of the place
abbrev pub free : Ladders → Table → Place → ℕ → ℕ
free grid seats place class =
    (if nat_le place.from place.to
    then least (λ leg. free_on (ladder_at grid place.flight leg) (seats place.flight leg) class) place.from
    (place.to - place.from)
    else 0)

-- no class stands twice in a leg's steps
abbrev pub HasLadders : Ladders → Type 0
HasLadders grid = (flight leg : ℕ) → IsDistinct (ladder_at grid flight leg)

-- n seats more may wait on a leg in a class: the class is there and open, and its waiting seats with these are at most its wait
abbrev pub may_wait_on : Steps → ByClass → ℕ → ℕ → Bool
may_wait_on [] waiting class n = false
may_wait_on (s ∷ lower) waiting class n =
    (if s.class == class then not s.closed && nat_le (waiting class + n) s.wait
    else may_wait_on lower waiting class n)

-- the test passes at leg `from` and the n legs after it
abbrev pub each_leg : (ℕ → Bool) → ℕ → ℕ → Bool
each_leg p from zero = p from
each_leg p from (suc n) = each_leg p from n && p (from + suc n)

-- the class stands on a leg with the mark
abbrev pub is_listed_on : Steps → ℕ → Bool
is_listed_on [] class = false
is_listed_on (s ∷ lower) class = (if s.class == class then s.listed else is_listed_on lower class)

-- the class stands on a leg and is open
abbrev pub is_open_on : Steps → ℕ → Bool
is_open_on [] class = false
is_open_on (s ∷ lower) class = (if s.class == class then not s.closed else is_open_on lower class)

-- n seats more may wait on each leg of the place
abbrev pub may_wait : Ladders → Table → Place → ℕ → ℕ → Bool
may_wait grid waiting place class n =
    nat_le place.from place.to
    && each_leg (λ leg. may_wait_on (ladder_at grid place.flight leg) (waiting place.flight leg) class n) place.from
    (place.to - place.from)

-- each leg of the place has the class with the mark
abbrev pub is_listed : Ladders → Place → ℕ → Bool
is_listed grid place class =
    nat_le place.from place.to && each_leg (λ leg. is_listed_on (ladder_at grid place.flight leg) class) place.from
    (place.to - place.from)
