-- Counters written from limits and seats.
use Rattle.std.proofs.Common.{◌≡◌, ◌==◌, ◌||◌, ℕ, zero, suc, Bool, true, false, cond, List, [], ◌∷◌, Option, Some, None, map, refl, ap, sym, ◌∙◌}
use Rattle.std.specs.Prelude.{if◌then◌else◌, option_map}
use Rattle.seat_nesting.specs.Nesting.{Ladders, Steps, ByClass, Table as HeldSeats, ladder_at, has_class}
use Rattle.seat_nesting.specs.Counting.{LegSeats, Counted, count_at, held_on, leg_in, leg_at, limits_of, table_of}
use Rattle.seat_journal.specs.declared.entry.Entry.{Entry}
use Rattle.seat_rules.specs.Showing.{Standing, shown, standing_of}
use Rattle.seat_display.specs.declared.table.Table.{Table}
use Rattle.seat_display.specs.declared.table.Op.TheVariants.{Line}
use Rattle.seat_display.specs.Shown.{flight_seats, all_seats, counters_of, counts_after, standing_in, tidied, apply, ShowsEntry}
use Rattle.seat_nesting.proofs.LimitChanges.{ladder_seen}
use Rattle.seat_nesting.proofs.LegCounting.{count_lacking}
use Rattle.seat_rules.proofs.History.Faults.{nat_same}

-- the limits of one leg
abbrev steps_in : LegSeats → Steps
steps_in l = l.steps

-- no seats stand at a class that its leg lacks
pub record IsOnLadders (grid : Ladders) (seats : HeldSeats) : Type 0 where
  pub none : (flight leg class : ℕ) → has_class (ladder_at grid flight leg) class ≡ false → seats flight leg class ≡ 0

-- ---- the limits of what is written

leg_limits : (legs : List Steps) (seats : ℕ → ByClass)
    → map (λ (l : LegSeats). l.steps) (flight_seats legs seats) ≡ legs
leg_limits [] seats = refl
leg_limits (steps ∷ legs) seats = ap (λ (l : List Steps). steps ∷ l) (leg_limits legs (λ leg. seats (suc leg)))

limits_written : (grid : Ladders) (seats : HeldSeats) → limits_of (all_seats grid seats) ≡ grid
limits_written [] seats = refl
limits_written (legs ∷ flights) seats =
    λ i. leg_limits legs (seats 0) i ∷ limits_written flights (λ flight. seats (suc flight)) i

-- ---- its seats

count_written : (steps : Steps) (seats : ByClass) (class : ℕ)
    → count_at steps (map (λ s. seats s.class) steps) class ≡ (if has_class steps class then seats class else 0)
count_written [] seats class = refl
count_written (s ∷ lower) seats class = cases (class == s.class) refl (count_written lower seats class)
  where
    cases : (b : Bool) → (class == s.class) ≡ b
        → count_at lower (map (λ t. seats t.class) lower) class ≡ (if has_class lower class then seats class else 0)
        → cond b (seats s.class) (count_at lower (map (λ t. seats t.class) lower) class)
        ≡ (if b || has_class lower class then seats class else 0)
    cases true e below = ap seats (sym (nat_same class s.class e))
    cases false e below = below

leg_written : (legs : List Steps) (seats : ℕ → ByClass) (leg class : ℕ)
    → (leg_in (flight_seats legs seats) leg).steps ≡ (leg_in (flight_seats legs seats) leg).steps
    → held_on (leg_in (flight_seats legs seats) leg) class
    ≡ (if has_class (leg_in (flight_seats legs seats) leg).steps class then seats leg class else 0)
leg_written [] seats leg class same = refl
leg_written (steps ∷ legs) seats zero class same = count_written steps (seats 0) class
leg_written (steps ∷ legs) seats (suc leg) class same = leg_written legs (λ l. seats (suc l)) leg class refl

flight_written : (grid : Ladders) (seats : HeldSeats) (flight leg class : ℕ)
    → table_of (all_seats grid seats) flight leg class
    ≡ (if has_class (leg_at (all_seats grid seats) flight leg).steps class then seats flight leg class else 0)
flight_written [] seats flight leg class = refl
flight_written (legs ∷ flights) seats zero leg class = leg_written legs (seats 0) leg class refl
flight_written (legs ∷ flights) seats (suc flight) leg class = flight_written flights (λ f. seats (suc f)) flight leg class

ladder_written : (grid : Ladders) (seats : HeldSeats) (flight leg : ℕ)
    → (leg_at (all_seats grid seats) flight leg).steps ≡ ladder_at grid flight leg
ladder_written grid seats flight leg =
    sym (ladder_seen (all_seats grid seats) flight leg) ∙ ap (λ (g : Ladders). ladder_at g flight leg) (limits_written grid seats)

if_on : (b : Bool) (n : ℕ) → (b ≡ false → n ≡ 0) → (if b then n else 0) ≡ n
if_on true n h = refl
if_on false n h = sym (h refl)

-- seats that stand at the classes of their legs are those that were written
seats_written : (grid : Ladders) (seats : HeldSeats) → IsOnLadders grid seats → (flight leg class : ℕ)
    → table_of (all_seats grid seats) flight leg class ≡ seats flight leg class
seats_written grid seats on flight leg class =
    flight_written grid seats flight leg class
    ∙ ap (λ (s : Steps). if has_class s class then seats flight leg class else 0) (ladder_written grid seats flight leg)
    ∙ if_on (has_class (ladder_at grid flight leg) class) (seats flight leg class) (on.none flight leg class)

-- ---- seats of counters stand at the classes of their legs

own_on_ladders : (counts : Counted) → IsOnLadders (limits_of counts) (table_of counts)
own_on_ladders counts = record {
  none = λ flight leg class h. count_lacking (leg_at counts flight leg).steps (leg_at counts flight leg).held class
      (ap (λ (s : Steps). has_class s class) (sym (ladder_seen counts flight leg)) ∙ h);
}

-- limits and seats that stand on them are those that were written
pub written : (s : Standing) → IsOnLadders s.limits s.seats → standing_of (counters_of s) ≡ s
written s on = λ i. record { limits = limits_written s.limits s.seats i; seats = λ f l k. seats_written s.limits s.seats on f l k i }

-- and so are those of counters
pub own : (counts : Counted) → standing_of (counters_of (standing_of counts)) ≡ standing_of counts
own counts = written (standing_of counts) (own_on_ladders counts)

-- ---- one entry more

-- whether the counters that there may be are so written first or not, the same is shown
after_own : (counts : Option Counted) (e : Entry)
    → option_map counters_of (option_map (λ (s : Standing). shown s e) (standing_in counts))
    ≡ counts_after (option_map counters_of (standing_in counts)) e
after_own None e = refl
after_own (Some counts) e = ap (λ (s : Standing). Some (counters_of (shown s e))) (sym (own counts))

pub absorbed : (old new : Table) (e : Entry) → ShowsEntry old new e → tidied new ≡ apply (tidied old) (Line e)
absorbed old new e h =
    let counts : (tidied new).counts ≡ counts_after (tidied old).counts e =
    ap (option_map counters_of) h.standing ∙ after_own old.counts e in
    λ i. record { opening = h.opening i; counts = counts i; lines = h.lines i; seen = h.seen i }
