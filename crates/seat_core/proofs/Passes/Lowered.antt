-- A limit that is not raised leaves no more room, so nothing that waits fits.
use Rattle.std.proofs.Common.{◌≡◌, ◌==◌, ◌&&◌, ℕ, zero, suc, ◌+◌, ◌-◌, ◌≤◌, Bool, true, false, cond, min, nat_le, List, [], ◌∷◌, Some, if◌then◌else◌, arith, refl, sym, subst}
use Rattle.std.proofs.lemmas.Bool.Decides.{nat_tests}
use Rattle.airline_base.specs.declared.place.Place.{Place}
use Rattle.seat_nesting.specs.declared.ladder.Step.{Step}
use Rattle.seat_nesting.specs.Nesting.{Ladders, Steps, ByClass, Table, held_from, ladder_at, least, room, room_on}
use Rattle.seat_nesting.specs.Changing.{step_of, with_limit}
use Rattle.seat_nesting.proofs.LimitChanges.{each_ladder, held_with}
use Rattle.seat_nesting.proofs.Rooms.{held_cons}
use Rattle.seat_journal.specs.declared.entry.Advice.{Advice}
use Rattle.seat_journal.specs.declared.entry.Change.{Change}
use Rattle.seat_rules.specs.declared.booking.Booking.{Booking}
use Rattle.seat_rules.specs.Bookings.{is_waiting}
use Rattle.seat_rules.specs.Sequential.{advice_of, changed_by}
use Rattle.seat_rules.specs.Tables.{advices_by, with_advice}

-- the room of a rank is that below it too, and none where its class is closed
abbrev room_with : Step → ℕ → Steps → ByClass → ℕ → ℕ
room_with s here lower seats k = (if s.class == k then (if s.closed then 0 else here) else min here (room_on lower seats k))

less_with : (s : Step) (m n : ℕ) (xs ys : Steps) (seats : ByClass) (k : ℕ) → m ≤ n
    → room_on xs seats k ≤ room_on ys seats k → room_with s m xs seats k ≤ room_with s n ys seats k
less_with s m n xs ys seats k le below = of (s.class == k) s.closed where
  of : (b c : Bool) → cond b (cond c 0 m) (min m (room_on xs seats k)) ≤ cond b (cond c 0 n) (min n (room_on ys seats k))
  of true true = omega arith
  of true false = le
  of false c = omega (arith, le, below)

-- on one leg
lowered_on : (steps : Steps) (seats : ByClass) (class limit wait : ℕ) (before : Step) (k : ℕ)
    → step_of steps class ≡ Some before → limit ≤ before.limit
    → room_on (with_limit steps class limit wait) seats k ≤ room_on steps seats k
lowered_on [] seats class limit wait before k is le = omega arith
lowered_on (s ∷ lower) seats class limit wait before k is le =
    of (s.class == class) refl is (λ (e : step_of lower class ≡ Some before). lowered_on lower seats class limit wait before k e le)
  where
    set : Step
    set = record s { limit = limit; wait = wait }

    of : (b : Bool) → (s.class == class) ≡ b → cond b (Some s) (step_of lower class) ≡ Some before
        → (step_of lower class ≡ Some before
        → room_on (with_limit lower class limit wait) seats k ≤ room_on lower seats k)
        → room_on (cond b (set ∷ lower) (s ∷ with_limit lower class limit wait)) seats k ≤ room_on (s ∷ lower) seats k
    of true e is below =
        let same : s ≡ before = cc in
        let most : limit ≤ s.limit = (let P : Step → Type 0 = λ x. limit ≤ x.limit in subst P (sym same) le) in
        less_with s (limit - held_from seats (set ∷ lower)) (s.limit - held_from seats (s ∷ lower)) lower lower seats k
        (omega (arith, most, held_cons seats set lower, held_cons seats s lower)) (omega arith)
    of false e is below =
        less_with s (s.limit - held_from seats (s ∷ with_limit lower class limit wait)) (s.limit - held_from seats (s ∷ lower)) (with_limit lower class limit wait) lower seats k
        (omega (arith, held_cons seats s (with_limit lower class limit wait), held_cons seats s lower, held_with seats lower class limit wait)) (below is)

pub least_most : (f g : ℕ → ℕ) (from n : ℕ) → ((x : ℕ) → f x ≤ g x) → least f from n ≤ least g from n
least_most f g from zero h = h from
least_most f g from (suc n) h = omega (arith, least_most f g from n h, h (from + suc n))

-- on each leg of a place
lowered_room : (grid : Ladders) (t : Table) (c : Change) (before : Step) (p : Place) (k : ℕ)
    → step_of (ladder_at grid c.flight c.leg) c.class ≡ Some before → c.limit ≤ before.limit
    → room (changed_by grid c) t p k ≤ room grid t p k
lowered_room grid t c before p k is le = of (nat_le p.from p.to) where
  old : ℕ → ℕ
  old leg = room_on (ladder_at grid p.flight leg) (t p.flight leg) k

  new : ℕ → ℕ
  new leg = room_on (ladder_at (changed_by grid c) p.flight leg) (t p.flight leg) k

  IsLess : ℕ → ℕ → Steps → Type 0
  IsLess flight leg steps = room_on steps (t flight leg) k ≤ room_on (ladder_at grid flight leg) (t flight leg) k

  each : (flight leg : ℕ) → IsLess flight leg (ladder_at (changed_by grid c) flight leg)
  each =
      each_ladder IsLess grid c.flight c.leg c.class c.limit c.wait (λ flight leg. omega arith)
      (lowered_on (ladder_at grid c.flight c.leg) (t c.flight c.leg) c.class c.limit c.wait before k is le)

  of : (b : Bool) → cond b (least new p.from (p.to - p.from)) 0 ≤ cond b (least old p.from (p.to - p.from)) 0
  of true = least_most new old p.from (p.to - p.from) (λ leg. each p.flight leg)
  of false = omega arith

-- ---- the pass

abbrev told_if : Bool → Ladders → Table → Booking → List Booking → List Advice
told_if fits grid t b bs = cond fits (advice_of b ∷ advices_by grid (with_advice t (advice_of b)) bs) (advices_by grid t bs)

none_here : (fits : Bool) (grid : Ladders) (t : Table) (b : Booking) (bs : List Booking)
    → told_if fits grid t b bs ≡ [] → (fits ≡ false) × (advices_by grid t bs ≡ [])
none_here true grid t b bs none = absurd cc
none_here false grid t b bs none = (refl, none)

not_over : (waits : Bool) (n less more : ℕ) → less ≤ more → (waits && nat_le n more) ≡ false
    → (waits && nat_le n less) ≡ false
not_over false n less more le e = refl
not_over true n less more le e = grind (arith, nat_tests)

pub none_fits : (grid new : Ladders) (t : Table) (queue : List Booking)
    → ((p : Place) (k : ℕ) → room new t p k ≤ room grid t p k) → advices_by grid t queue ≡ []
    → advices_by new t queue ≡ []
none_fits grid new t [] less none = refl
none_fits grid new t (b ∷ bs) less none =
    let parts = none_here (is_waiting b.status && nat_le b.seats (room grid t b.place b.class)) grid t b bs none in
    let over = not_over (is_waiting b.status) b.seats (room new t b.place b.class) (room grid t b.place b.class) (less b.place b.class) parts.0 in
    rw over (none_fits grid new t bs less parts.1)

-- where nothing that waits fits, nothing does under a limit that is no higher
pub none_lowered : (grid : Ladders) (t : Table) (c : Change) (before : Step) (queue : List Booking)
    → Some before ≡ step_of (ladder_at grid c.flight c.leg) c.class → c.limit ≤ before.limit
    → advices_by grid t queue ≡ [] → [] ≡ advices_by (changed_by grid c) t queue
none_lowered grid t c before queue is le none =
    sym (none_fits grid (changed_by grid c) t queue (λ p k. lowered_room grid t c before p k (sym is) le) none)
