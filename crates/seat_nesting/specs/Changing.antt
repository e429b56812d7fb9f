-- What is set on a leg, a limit or whether a class is closed, and when it may be.
use Rattle.std.specs.Prelude.{◌≡◌, ℕ, zero, suc, ◌≤◌, ◌<◌, ◌&&◌, ◌==◌, nat_le, Bool, true, false, List, [], ◌∷◌, length, map, slice_get, Option, Some, None, if◌then◌else◌}
use Rattle.std.specs.List.{list_any}
use Rattle.seat_nesting.specs.declared.ladder.Step.{Step}
use Rattle.seat_nesting.specs.declared.setting.Setting.{Setting}
use Rattle.seat_nesting.specs.declared.setting.Setting.TheVariants.{ToLimit, ToSale, ToMarks}
use Rattle.seat_nesting.specs.Nesting.{Steps, Ladders, ByClass, Table, legs_of, ladder_at, held_from}
use Rattle.seat_nesting.specs.Counting.{LegSeats, Counted, KeepsLimits, leg_of, held_on, leg_in, limits_of, table_of}

-- the class has this limit and wait from now on
abbrev pub with_limit : Steps → ℕ → ℕ → ℕ → Steps
with_limit [] class limit wait = []
with_limit (s ∷ lower) class limit wait =
    (if s.class == class then record s { limit = limit; wait = wait } ∷ lower else s
    ∷ with_limit lower class limit wait)

-- the class is the one that is named; where none is named, each is
abbrev pub is_named : Option ℕ → ℕ → Bool
is_named None class = true
is_named (Some k) class = k == class

-- the step of a named class is closed from now on, or open
abbrev pub marked : Option ℕ → Bool → Step → Step
marked which closed s = (if is_named which s.class then record s { closed = closed } else s)

-- each named class is closed from now on, or open
abbrev pub with_sale : Steps → Option ℕ → Bool → Steps
with_sale steps which closed = map (marked which closed) steps

-- whether these steps have a class closed at a rank; `closed` where they have no such rank
abbrev pub closed_from : Option Step → Bool → Bool
closed_from None closed = closed
closed_from (Some s) closed = s.closed

abbrev pub closed_at : Steps → ℕ → Bool → Bool
closed_at marks rank closed = closed_from (slice_get marks rank) closed

-- at each rank the class is closed or open as in the others; at ranks that those lack it stays as it is
abbrev pub with_marks : Steps → Steps → Steps
with_marks [] marks = []
with_marks (s ∷ lower) [] = s ∷ lower
with_marks (s ∷ lower) (t ∷ more) = record s { closed = t.closed } ∷ with_marks lower more

-- what is set
abbrev pub with_setting : Steps → Setting → Steps
with_setting steps (ToLimit class limit wait) = with_limit steps class limit wait
with_setting steps (ToSale which closed) = with_sale steps which closed
with_setting steps (ToMarks marks) = with_marks steps marks

-- the same on one leg of a flight
abbrev pub leg_set : List Steps → ℕ → Setting → List Steps
leg_set [] leg setting = []
leg_set (steps ∷ legs) zero setting = with_setting steps setting ∷ legs
leg_set (steps ∷ legs) (suc leg) setting = steps ∷ leg_set legs leg setting

-- the same on one leg of one flight
abbrev pub ladders_set : Ladders → ℕ → ℕ → Setting → Ladders
ladders_set [] flight leg setting = []
ladders_set (legs ∷ flights) zero leg setting = leg_set legs leg setting ∷ flights
ladders_set (legs ∷ flights) (suc flight) leg setting = legs ∷ ladders_set flights flight leg setting

-- a class of a leg has this limit and wait from now on
abbrev pub limits_with : Ladders → ℕ → ℕ → ℕ → ℕ → ℕ → Ladders
limits_with grid flight leg class limit wait = ladders_set grid flight leg (ToLimit class limit wait)

-- a class of a leg, or where none is named each, is closed from now on, or open
abbrev pub sales_with : Ladders → ℕ → ℕ → Option ℕ → Bool → Ladders
sales_with grid flight leg which closed = ladders_set grid flight leg (ToSale which closed)

-- at each rank of a leg the class is closed or open as in these steps
abbrev pub marks_with : Ladders → ℕ → ℕ → Steps → Ladders
marks_with grid flight leg marks = ladders_set grid flight leg (ToMarks marks)

-- the highest limit of these steps; 0 where there is none
abbrev pub top_of : Steps → ℕ
top_of [] = 0
top_of (s ∷ lower) = s.limit

-- the step of a class, where it is there
abbrev pub step_of : Steps → ℕ → Option Step
step_of [] class = None
step_of (s ∷ lower) class = (if s.class == class then Some s else step_of lower class)

-- the limit of the next higher rank; `above` for the highest
abbrev pub limit_above : ℕ → Steps → ℕ → ℕ
limit_above above steps zero = above
limit_above above [] (suc rank) = above
limit_above above (s ∷ lower) (suc rank) = limit_above s.limit lower rank

-- a class may have this limit: it is there, the next higher rank's limit, which is `above`, is no lower, the next lower rank's is no higher, and no more seats are held in the class and below
abbrev pub may_have_below : ℕ → Steps → ByClass → ℕ → ℕ → Bool
may_have_below above [] seats class limit = false
may_have_below above (s ∷ lower) seats class limit =
    (if s.class == class
    then nat_le limit above && nat_le (top_of lower) limit && nat_le (held_from seats (s ∷ lower)) limit
    else may_have_below s.limit lower seats class limit)

-- a class of a leg may have this limit, of at most 999
abbrev pub may_have : Steps → ByClass → ℕ → ℕ → Bool
may_have steps seats class limit = may_have_below 999 steps seats class limit

-- a class of a leg of a flight may have this limit and wait, each at most 999
abbrev pub can_set : Ladders → Table → ℕ → ℕ → ℕ → ℕ → ℕ → Bool
can_set grid seats flight leg class limit wait =
    nat_le wait 999 && may_have (ladder_at grid flight leg) (seats flight leg) class limit

-- a class that is named stands in these steps; where none is named, any class does
abbrev pub has_named : Steps → Option ℕ → Bool
has_named steps which = list_any (λ s. is_named which s.class) steps

-- the leg has the class, or where none is named any class
abbrev pub has_sale : Ladders → ℕ → ℕ → Option ℕ → Bool
has_sale grid flight leg which = has_named (ladder_at grid flight leg) which

-- that is set on a leg, and every seat is held as before
pub record LegSets (old new : LegSeats) (setting : Setting) : Type 0 where
  pub steps : new.steps ≡ with_setting old.steps setting
  pub seats : (k : ℕ) → held_on new k ≡ held_on old k
  pub kept : KeepsLimits new

-- it may be set on a leg: the leg has steps, and holds no more than a limit after it
pub record MaySet (leg : LegSeats) (setting : Setting) : Type 0 where
  pub some : 0 < length leg.steps
  pub sets : LegSets leg (leg_of (with_setting leg.steps setting) leg.held) setting

-- the same on one leg of a flight
pub record FlightSets (old new : List LegSeats) (leg : ℕ) (setting : Setting) : Type 0 where
  pub limits : map (λ (l : LegSeats). l.steps) new ≡ leg_set (map (λ (l : LegSeats). l.steps) old) leg setting
  pub seats : (at k : ℕ) → held_on (leg_in new at) k ≡ held_on (leg_in old at) k
  pub kept : ((at : ℕ) → KeepsLimits (leg_in old at)) → (at : ℕ) → KeepsLimits (leg_in new at)

-- the same on one leg of one flight
pub record SetsOn (old new : Counted) (flight leg : ℕ) (setting : Setting) : Type 0 where
  pub limits : limits_of new ≡ ladders_set (limits_of old) flight leg setting
  pub seats : (f at k : ℕ) → table_of new f at k ≡ table_of old f at k

-- a limit and a wait of a class
abbrev pub Sets : Counted → Counted → ℕ → ℕ → ℕ → ℕ → ℕ → Type 0
Sets old new flight leg class limit wait = SetsOn old new flight leg (ToLimit class limit wait)

-- whether a class, or where none is named each, is closed
abbrev pub SetsSale : Counted → Counted → ℕ → ℕ → Option ℕ → Bool → Type 0
SetsSale old new flight leg which closed = SetsOn old new flight leg (ToSale which closed)

-- which classes are closed, as in these steps
abbrev pub SetsMarks : Counted → Counted → ℕ → ℕ → Steps → Type 0
SetsMarks old new flight leg marks = SetsOn old new flight leg (ToMarks marks)

-- the flight and the leg are there, and limit and wait are at most 999
pub record FitsLimit (grid : Ladders) (flight leg limit wait : ℕ) : Type 0 where
  pub there : leg < length (legs_of grid flight)
  pub limit_most : limit ≤ 999
  pub wait_most : wait ≤ 999
