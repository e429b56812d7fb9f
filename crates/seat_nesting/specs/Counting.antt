-- Counters of held seats: one number for each leg and rank.
use Rattle.std.specs.Prelude.{◌≡◌, ◌<◌, ◌≤◌, ℕ, true, length, slice_index_or, ◌+◌, ◌-◌, ◌==◌, ◌&&◌, nat_le, Bool, List, [], ◌∷◌, map, unwrap_or, slice_get, if◌then◌else◌}
use Rattle.seat_nesting.specs.Nesting.{Steps, Ladders, ByClass, Table, IsWithin, IsLegLadder, ladder_at, has_class, each_leg, seats_at}
use Rattle.seat_nesting.specs.declared.ladder.Step.{Step}
use Rattle.airline_base.specs.declared.place.Place.{Place}

-- ---- one leg

-- the steps of a leg, and the number of held seats at each rank
pub record LegSeats : Type 0 where
  pub steps : Steps
  pub held : List ℕ

abbrev pub leg_of : Steps → List ℕ → LegSeats
leg_of steps held = record { steps = steps; held = held }

-- what stands at the rank of a class; 0 where the class is missing
abbrev pub count_at : Steps → List ℕ → ByClass
count_at [] held class = 0
count_at (s ∷ lower) [] class = 0
count_at (s ∷ lower) (n ∷ more) class = (if class == s.class then n else count_at lower more class)

-- the class stands at this rank, counted from 0
pub record IsRank (steps : Steps) (class rank : ℕ) : Type 0 where
  pub inside : rank < length steps
  pub class_is : (d : Step) → (slice_index_or steps rank d).class ≡ class
  pub there : has_class steps class ≡ true

-- the seats that are held on a leg in each class
abbrev pub held_on : LegSeats → ByClass
held_on leg class = count_at leg.steps leg.held class

-- no rank and those below it hold more than its limit
pub record KeepsLimits (leg : LegSeats) : Type 0 where
  pub ladder : IsLegLadder leg.steps
  pub counted : length leg.steps ≤ length leg.held
  pub within : IsWithin leg.steps (held_on leg)

-- the number n is added to what is held in a class, or taken off it, and nothing else changes
pub record LegChanges (op : ℕ → ℕ → ℕ) (old new : LegSeats) (class n : ℕ) : Type 0 where
  pub steps : new.steps ≡ old.steps
  pub seats : (k : ℕ) → held_on new k ≡ op (held_on old k) (if class == k then n else 0)
  pub kept : KeepsLimits new

abbrev pub plus : ℕ → ℕ → ℕ
plus a b = a + b

abbrev pub less : ℕ → ℕ → ℕ
less a b = a - b

-- the class is there, and at least n seats are held in it
abbrev pub leg_holds : Steps → ByClass → ℕ → ℕ → Bool
leg_holds steps seats class n = has_class steps class && nat_le n (seats class)

-- ---- all legs

-- the legs of each flight
abbrev pub Counted : Type 0
Counted = List (List LegSeats)

-- a leg without limits
abbrev pub no_leg : LegSeats
no_leg = record { steps = []; held = [] }

abbrev pub leg_in : List LegSeats → ℕ → LegSeats
leg_in legs leg = unwrap_or (slice_get legs leg) no_leg

abbrev pub legs_in : Counted → ℕ → List LegSeats
legs_in flights flight = unwrap_or (slice_get flights flight) []

abbrev pub leg_at : Counted → ℕ → ℕ → LegSeats
leg_at counts flight leg = leg_in (legs_in counts flight) leg

-- the limits of each leg
abbrev pub limits_of : Counted → Ladders
limits_of counts = map (λ legs. map (λ (l : LegSeats). l.steps) legs) counts

-- the seats that are held on each leg in each class
abbrev pub table_of : Counted → Table
table_of counts flight leg = held_on (leg_at counts flight leg)

-- no leg holds more than a limit
pub record IsWithinLimits (counts : Counted) : Type 0 where
  pub leg_kept : (flight leg : ℕ) → KeepsLimits (leg_at counts flight leg)

-- the same on one leg of a flight
pub record FlightChanges (op : ℕ → ℕ → ℕ) (old new : List LegSeats) (leg class n : ℕ) : Type 0 where
  pub limits : map (λ (l : LegSeats). l.steps) new ≡ map (λ (l : LegSeats). l.steps) old
  pub seats : (at k : ℕ)
      → held_on (leg_in new at) k ≡ op (held_on (leg_in old at) k) (if (at == leg) && (class == k) then n else 0)
  pub kept : ((at : ℕ) → KeepsLimits (leg_in old at)) → (at : ℕ) → KeepsLimits (leg_in new at)

-- on one leg
pub record OneLegChanges (op : ℕ → ℕ → ℕ) (old new : Counted) (flight leg class n : ℕ) : Type 0 where
  pub limits : limits_of new ≡ limits_of old
  pub seats : (f at k : ℕ)
      → table_of new f at k ≡ op (table_of old f at k) (if (f == flight) && (at == leg) && (class == k) then n else 0)

-- on each leg of a place
pub record Changes (op : ℕ → ℕ → ℕ) (old new : Counted) (place : Place) (class n : ℕ) : Type 0 where
  pub limits : limits_of new ≡ limits_of old
  pub seats : (f at k : ℕ) → table_of new f at k ≡ op (table_of old f at k) (seats_at place class n f at k)

-- n seats more on each leg of a place in a class, or n fewer, and the same limits
abbrev pub Takes : Counted → Counted → Place → ℕ → ℕ → Type 0
Takes old new place class n = Changes plus old new place class n

abbrev pub Gives : Counted → Counted → Place → ℕ → ℕ → Type 0
Gives old new place class n = Changes less old new place class n

-- a leg on which no seat is held
pub record IsFresh (leg : LegSeats) : Type 0 where
  pub kept : KeepsLimits leg
  pub none : (k : ℕ) → held_on leg k ≡ 0

-- at least n seats are held in the class on each leg of the place
abbrev pub holds : Ladders → Table → Place → ℕ → ℕ → Bool
holds grid seats place class n =
    nat_le place.from place.to
    && each_leg (λ leg. leg_holds (ladder_at grid place.flight leg) (seats place.flight leg) class n) place.from
    (place.to - place.from)
