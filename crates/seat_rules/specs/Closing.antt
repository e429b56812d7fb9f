-- Classes that are closed: which lines close and open one, what it means, and that nothing else changes.
use Rattle.std.specs.Prelude.{◌≡◌, ℕ, ◌+◌, ◌==◌, ◌&&◌, nat_le, not, Bool, true, false, List, [], ◌∷◌, ◌++◌, fold, Option, Some, None, if◌then◌else◌}
use Rattle.std.specs.List.{sum_by, AllByRecursion}
use Rattle.airline_base.specs.declared.place.Place.{Place}
use Rattle.seat_nesting.specs.Nesting.{Steps, Ladders, ByClass, free_on, ladder_at, may_wait_on, room_on, seats_at}
use Rattle.seat_nesting.specs.Changing.{is_named}
use Rattle.seat_journal.specs.declared.entry.Advice.{Advice}
use Rattle.seat_journal.specs.declared.entry.Entry.{Entry}
use Rattle.seat_journal.specs.declared.entry.Work.{Work}
use Rattle.seat_journal.specs.declared.entry.Work.TheVariants.{Seats, Limit, Sale}
use Rattle.seat_journal.specs.Text.{is_sale}
use Rattle.seat_rules.specs.Totals.{is_confirmation}
use Rattle.seat_rules.specs.Journal.{replay, IsLegal}

-- ---- between a close and the next open

-- a line that closes the class on the leg, by its name or with all that the leg has
abbrev pub closes : ℕ → ℕ → ℕ → Work → Bool
closes flight leg class (Seats c) = false
closes flight leg class (Limit c) = false
closes flight leg class (Sale c) = c.closed && (c.flight == flight) && (c.leg == leg) && is_named c.class class

-- one that opens it
abbrev pub opens : ℕ → ℕ → ℕ → Work → Bool
opens flight leg class (Seats c) = false
opens flight leg class (Limit c) = false
opens flight leg class (Sale c) = not c.closed && (c.flight == flight) && (c.leg == leg) && is_named c.class class

abbrev pub shut_after : ℕ → ℕ → ℕ → Bool → Entry → Bool
shut_after flight leg class before e =
    (if closes flight leg class e.work then true else (if opens flight leg class e.work then false else before))

-- of the lines that close or open the class on the leg the last closes it
abbrev pub is_shut : ℕ → ℕ → ℕ → List Entry → Bool
is_shut flight leg class journal = fold (shut_after flight leg class) false journal

-- the seats on the leg in the class that a line asks for
abbrev pub asked_at : Option Place → ℕ → ℕ → ℕ → ℕ → ℕ → ℕ
asked_at None class seats flight leg k = 0
asked_at (Some place) class seats flight leg k = seats_at place class seats flight leg k

abbrev pub asked_on : ℕ → ℕ → ℕ → Work → ℕ
asked_on flight leg k (Seats c) = asked_at c.place c.class c.seats flight leg k
asked_on flight leg k (Limit c) = 0
asked_on flight leg k (Sale c) = 0

-- those of which advices tell
abbrev pub advised_on : ℕ → ℕ → ℕ → List Advice → ℕ
advised_on flight leg k advices = sum_by (λ a. seats_at a.place a.class a.seats flight leg k) advices

-- the seats on the leg in the class that a line gives or confirms: those of a KK, and of its advices
abbrev pub given_on : ℕ → ℕ → ℕ → Entry → ℕ
given_on flight leg k e =
    (if is_confirmation e.reply then asked_on flight leg k e.work else 0) + advised_on flight leg k e.advices

-- between a close of a leg's class and the next open no line gives or confirms a seat in that class on that leg
abbrev pub ClosedIsClosed : Type 0
ClosedIsClosed = (grid : Ladders) (past : List Entry) (e : Entry) (flight leg class : ℕ) → IsLegal grid (past ++ e ∷ [])
    → is_shut flight leg class past ≡ true → opens flight leg class e.work ≡ false
    → given_on flight leg class e ≡ 0

-- ---- no closing

-- whether n more may wait by the rules that know no closed class
abbrev pub may_wait_unmarked : Steps → ByClass → ℕ → ℕ → Bool
may_wait_unmarked [] waiting class n = false
may_wait_unmarked (s ∷ lower) waiting class n =
    (if s.class == class then nat_le (waiting class + n) s.wait else may_wait_unmarked lower waiting class n)

-- no class of the leg is closed
abbrev pub AreOpen : Steps → Type 0
AreOpen steps = AllByRecursion (λ s. s.closed ≡ false) steps

-- no class is closed on any leg
abbrev pub IsOpen : Ladders → Type 0
IsOpen grid = (flight leg : ℕ) → AreOpen (ladder_at grid flight leg)

-- a leg's rooms are the seats that the limits leave, and who may wait may by the rules that know no closed class
pub record IsAsBefore (steps : Steps) : Type 0 where
  pub rooms : (seats : ByClass) (class : ℕ) → room_on steps seats class ≡ free_on steps seats class
  pub waits : (waiting : ByClass) (class n : ℕ)
      → may_wait_on steps waiting class n ≡ may_wait_unmarked steps waiting class n

-- over limits that close no class, lines of which none closes or opens one leave limits by which each room and each waiting room is as before
abbrev pub WithoutClosingNothingChanges : Type 0
WithoutClosingNothingChanges = (grid : Ladders) (journal : List Entry) (flight leg : ℕ) → IsOpen grid
    → AllByRecursion (λ e. is_sale e.work ≡ false) journal
    → IsAsBefore (ladder_at (replay grid journal).grid flight leg)
