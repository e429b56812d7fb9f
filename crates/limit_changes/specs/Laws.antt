-- The laws of the changes: each is accepted where those ahead of it were, and where none falls short the limits behind them are the wanted ones.
use Rattle.std.specs.Prelude.{◌≡◌, ℕ, nat_lt, List, [], ◌∷◌, ◌++◌, codes, Option, Some, None, if◌then◌else◌}
use Rattle.std.specs.List.{AllByRecursion}
use Rattle.ssim_flights.specs.declared.flight.Flight.{Flight as Flown}
use Rattle.seat_journal.specs.declared.entry.Change.{Change}
use Rattle.seat_journal.specs.declared.entry.Entry.{Entry}
use Rattle.seat_nesting.specs.Nesting.{ByClass, IsLegLadder, IsWithin, Ladders, Steps, held_from, ladder_at}
use Rattle.seat_nesting.specs.Changing.{step_of}
use Rattle.seat_nesting.specs.declared.ladder.Step.{Step}
use Rattle.seat_rules.specs.Journal.{replay}
use Rattle.seat_rules.specs.Sequential.{State, set}
use Rattle.limit_changes.specs.Legs.{kept_legs}
use Rattle.limit_changes.specs.Rows.{reached_on, rows, seats_now, steps_now, wanted_on}
use Rattle.limit_changes.specs.Shorts.{shorts_of}
use Rattle.limit_changes.specs.declared.legs.LegsAsked.{LegsAsked}
use Rattle.limit_changes.specs.declared.legs.NamedLeg.{NamedLeg}
use Rattle.limit_changes.specs.declared.rows.Row.{Row}
use Rattle.limit_changes.specs.declared.shorts.Short.{Short}

-- the change that the manager asks for
abbrev pub change_in : Row → Change
change_in row = record { flight = row.leg.flight; leg = row.leg.leg; class = row.class; limit = row.limit; wait = row.wait }

-- what is left once it is answered: where it is accepted the limit is set, and those who wait are confirmed as far as they fit
abbrev pub after_row : State → Row → State
after_row s row = (set s (change_in row)).state

abbrev pub after_rows : State → List Row → State
after_rows s [] = s
after_rows s (row ∷ more) = after_rows (after_row s row) more

-- each is answered OK, where those ahead of it are made
abbrev pub AreAccepted : State → List Row → Type 0
AreAccepted s [] = Unit {0}
AreAccepted s (row ∷ more) = ((set s (change_in row)).reply ≡ codes "OK") × AreAccepted (after_row s row) more

-- each leg has a ladder or none
abbrev pub AreLadders : Ladders → Type 0
AreLadders grid = (flight leg : ℕ) → IsLegLadder (ladder_at grid flight leg)

-- behind any journal each change is accepted
abbrev pub EachIsAccepted : Type 0
EachIsAccepted = (grid wanted : Ladders) (journal : List Entry) (flights : List Flown) (asked : LegsAsked) → AreLadders grid
    → AreLadders wanted →
    let s = replay grid journal in
    AreAccepted s (rows wanted s (kept_legs asked flights))

-- and behind the changes each leg that is asked for has the limits to which it comes
abbrev pub EachIsReached : Type 0
EachIsReached = (grid wanted : Ladders) (journal : List Entry) (flights : List Flown) (asked : LegsAsked) → AreLadders grid
    → AreLadders wanted →
    let s = replay grid journal in
    AllByRecursion (λ leg. steps_now (after_rows s (rows wanted s (kept_legs asked flights))) leg ≡ reached_on wanted s leg) (kept_legs asked flights)

-- where no class of a leg falls short, each class that its limits and the wanted ones have comes to the wanted limit and the wanted wait
abbrev pub NoneShortIsWanted : Type 0
NoneShortIsWanted = (wanted : Ladders) (s : State) (leg : NamedLeg) (class : ℕ) (now w : Step)
    → shorts_of wanted s leg ≡ [] → step_of (steps_now s leg) class ≡ Some now → step_of (wanted_on wanted leg) class ≡ Some w
    → step_of (reached_on wanted s leg) class ≡ Some (record now { limit = w.limit; wait = w.wait })

-- the class has the limit and the wait that are wanted of it
pub record HasWanted (steps wanted : Steps) : Type 0 where
  pub each : (class : ℕ) (now w : Step) → step_of steps class ≡ Some now → step_of wanted class ≡ Some w
      → (now.limit ≡ w.limit) × (now.wait ≡ w.wait)

-- where each leg has what is wanted already, nothing changes
abbrev pub NothingIsLeft : Type 0
NothingIsLeft = (wanted : Ladders) (s : State) (legs : List NamedLeg) → AreLadders s.grid
    → AllByRecursion (λ leg. HasWanted (steps_now s leg) (wanted_on wanted leg)) legs → rows wanted s legs ≡ []

-- ---- classes that fall short

-- the ladders name the same classes in the same order
abbrev pub SameClasses : Steps → Steps → Type 0
SameClasses [] [] = Unit {0}
SameClasses [] (w ∷ wanted) = ⊥
SameClasses (s ∷ lower) [] = ⊥
SameClasses (s ∷ lower) (w ∷ wanted) = (w.class ≡ s.class) × SameClasses lower wanted

-- a class of which more is held than is wanted
abbrev pub held_over : NamedLeg → Option Step → ℕ → Step → List Short
held_over leg None seats s = []
held_over leg (Some w) seats s =
    (if nat_lt w.limit seats then record { leg = leg; class = s.class; wanted = w.limit; held = seats; limit = seats } ∷ [] else [])

-- those of a leg, from the highest rank down
abbrev pub all_held_over : NamedLeg → Steps → ByClass → Steps → List Short
all_held_over leg wanted seats [] = []
all_held_over leg wanted seats (s ∷ lower) =
    held_over leg (step_of wanted s.class) (held_from seats (s ∷ lower)) s ++ all_held_over leg wanted seats lower

-- where the wanted limits name the classes of a leg in their order, those fall short of which more is held than is wanted, and each comes to what is held
abbrev pub ShortIsHeld : Type 0
ShortIsHeld = (wanted : Ladders) (s : State) (leg : NamedLeg) → IsLegLadder (steps_now s leg) → IsLegLadder (wanted_on wanted leg)
    → IsWithin (steps_now s leg) (seats_now s leg) → SameClasses (steps_now s leg) (wanted_on wanted leg)
    → shorts_of wanted s leg ≡ all_held_over leg (wanted_on wanted leg) (seats_now s leg) (steps_now s leg)

-- ---- limits that are reached word for word

-- the ladders name the same classes in the same order, each with the same marks
abbrev pub SameRanks : Steps → Steps → Type 0
SameRanks [] [] = Unit {0}
SameRanks [] (w ∷ wanted) = ⊥
SameRanks (s ∷ lower) [] = ⊥
SameRanks (s ∷ lower) (w ∷ wanted) =
    (w.class ≡ s.class) × (w.listed ≡ s.listed) × (w.closed ≡ s.closed) × SameRanks lower wanted

-- where the wanted limits name the classes of a leg in their order, with their marks, and have room for what is held, the leg comes to the very wanted ones
abbrev pub RoomIsReached : Type 0
RoomIsReached = (wanted : Ladders) (s : State) (leg : NamedLeg) → IsLegLadder (steps_now s leg) → IsLegLadder (wanted_on wanted leg)
    → IsWithin (steps_now s leg) (seats_now s leg) → IsWithin (wanted_on wanted leg) (seats_now s leg)
    → SameRanks (steps_now s leg) (wanted_on wanted leg) → reached_on wanted s leg ≡ wanted_on wanted leg
