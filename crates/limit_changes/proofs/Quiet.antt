-- A limit that is cut lets nobody in.
use Rattle.std.proofs.Common.{◌≡◌, ◌==◌, ◌&&◌, ℕ, zero, suc, ◌+◌, ◌-◌, ◌≤◌, min, Bool, true, false, cond, if◌then◌else◌, nat_le, List, [], ◌∷◌, ◌++◌, Option, Some, IfSome, arith, refl, sym, ap, subst, ◌∙◌, append_assoc}
use Rattle.std.specs.List.{AllByRecursion}
use Rattle.std.proofs.Math.Nat.{le-min, min-le_left, min-le_right}
use Rattle.std.proofs.lemmas.Bool.Decides.{nat_tests}
use Rattle.std.proofs.lemmas.List.{append-nil}
use Rattle.airline_base.specs.declared.place.Place.{Place}
use Rattle.seat_journal.specs.declared.entry.Advice.{Advice}
use Rattle.seat_nesting.specs.Nesting.{ByClass, Ladders, Steps, Table, held_from, ladder_at, least, room, room_on}
use Rattle.seat_nesting.specs.Changing.{limits_with, step_of, with_limit}
use Rattle.seat_nesting.specs.declared.ladder.Step.{Step}
use Rattle.seat_nesting.proofs.LimitChanges.{each_ladder, held_with}
use Rattle.seat_nesting.proofs.Rooms.{held_cons}
use Rattle.seat_rules.specs.Bookings.{held, is_waiting}
use Rattle.seat_rules.specs.Sequential.{NoneFits, advice_of, confirmed, may_confirm, pass}
use Rattle.seat_rules.specs.declared.booking.Booking.{Booking}
use Rattle.seat_rules.proofs.Passes.Quiet.{all_map}

-- ---- rooms under a lower limit

min_less : (a b c d : ℕ) → a ≤ c → b ≤ d → min a b ≤ min c d
min_less a b c d p q =
    let l : min a b ≤ a = min-le_left a b in
    let r : min a b ≤ b = min-le_right a b in
    le-min (omega (arith, l, p)) (omega (arith, r, q))

least_less : (f g : ℕ → ℕ) (from n : ℕ) → ((x : ℕ) → f x ≤ g x) → least f from n ≤ least g from n
least_less f g from zero h = h from
least_less f g from (suc n) h =
    min_less (least f from n) (f (from + suc n)) (least g from n) (g (from + suc n)) (least_less f g from n h) (h (from + suc n))

-- where the first of two rooms is the room of a rank, and the other of one whose limit is no lower, both closed or both open
room_step : (hit shut : Bool) (a b c d : ℕ) → a ≤ c → b ≤ d
    → (if hit then (if shut then 0 else a) else min a b) ≤ (if hit then (if shut then 0 else c) else min c d)
room_step true true a b c d p q = omega arith
room_step true false a b c d p q = p
room_step false shut a b c d p q = min_less a b c d p q

room_cut : (steps : Steps) (seats : ByClass) (class limit wait k : ℕ) → IfSome (step_of steps class) (λ s. limit ≤ s.limit)
    → room_on (with_limit steps class limit wait) seats k ≤ room_on steps seats k
room_cut [] seats class limit wait k less = omega arith
room_cut (s ∷ lower) seats class limit wait k less =
    cases (s.class == class) less (λ (h : IfSome (step_of lower class) (λ x. limit ≤ x.limit)). room_cut lower seats class limit wait k h)
  where
    cases : (b : Bool) → IfSome (cond b (Some s) (step_of lower class)) (λ x. limit ≤ x.limit)
        → (IfSome (step_of lower class) (λ x. limit ≤ x.limit) → room_on (with_limit lower class limit wait) seats k ≤ room_on lower seats k)
        → room_on (cond b (record s { limit = limit; wait = wait } ∷ lower) (s ∷ with_limit lower class limit wait)) seats k
        ≤ room_on (s ∷ lower) seats k
    cases true le below =
        let new : Step = record s { limit = limit; wait = wait } in
        let here : limit - held_from seats (new ∷ lower) ≤ s.limit - held_from seats (s ∷ lower) =
        omega (arith, le, held_cons seats new lower, held_cons seats s lower) in
        room_step (s.class == k) s.closed (limit - held_from seats (new ∷ lower)) (room_on lower seats k) (s.limit - held_from seats (s ∷ lower)) (room_on lower seats k)
        here (omega arith)
    cases false le below =
        let rest : Steps = with_limit lower class limit wait in
        let here : s.limit - held_from seats (s ∷ rest) ≤ s.limit - held_from seats (s ∷ lower) =
        omega (arith, held_cons seats s rest, held_cons seats s lower, held_with seats lower class limit wait) in
        room_step (s.class == k) s.closed (s.limit - held_from seats (s ∷ rest)) (room_on rest seats k) (s.limit - held_from seats (s ∷ lower)) (room_on lower seats k)
        here (below le)

room_less : (grid : Ladders) (seats : Table) (flight leg class limit wait : ℕ) (place : Place) (k : ℕ)
    → IfSome (step_of (ladder_at grid flight leg) class) (λ s. limit ≤ s.limit)
    → room (limits_with grid flight leg class limit wait) seats place k ≤ room grid seats place k
room_less grid seats flight leg class limit wait place k less = cases (nat_le place.from place.to) where
  new : Ladders
  new = limits_with grid flight leg class limit wait

  each : (f at : ℕ) → room_on (ladder_at new f at) (seats f at) k ≤ room_on (ladder_at grid f at) (seats f at) k
  each =
      each_ladder (λ f at steps. room_on steps (seats f at) k ≤ room_on (ladder_at grid f at) (seats f at) k) grid flight leg class limit wait
      (λ f at. omega arith) (room_cut (ladder_at grid flight leg) (seats flight leg) class limit wait k less)

  cases : (b : Bool)
      → (if b then least (λ l. room_on (ladder_at new place.flight l) (seats place.flight l) k) place.from (place.to - place.from) else 0)
      ≤ (if b then least (λ l. room_on (ladder_at grid place.flight l) (seats place.flight l) k) place.from (place.to - place.from) else 0)
  cases true =
      least_less (λ l. room_on (ladder_at new place.flight l) (seats place.flight l) k) (λ l. room_on (ladder_at grid place.flight l) (seats place.flight l) k)
      place.from (place.to - place.from) (each place.flight)
  cases false = omega arith

-- ---- nobody is let in

none_more : (waits : Bool) (seats old new : ℕ) → new ≤ old → (waits && nat_le seats old) ≡ false → (waits && nat_le seats new) ≡ false
none_more false seats old new le e = refl
none_more true seats old new le e = grind (arith, nat_tests)

quiet_under : (grid new : Ladders) (bookings : List Booking) → ((place : Place) (k : ℕ) → room new (held bookings) place k ≤ room grid (held bookings) place k)
    → NoneFits grid bookings → NoneFits new bookings
quiet_under grid new bookings less =
    all_map (λ b. may_confirm grid bookings b ≡ false) (λ b. may_confirm new bookings b ≡ false) bookings
    (λ b e. none_more (is_waiting b.status) b.seats (room grid (held bookings) b.place b.class) (room new (held bookings) b.place b.class) (less b.place b.class) e)

pass_none : (grid : Ladders) (book done bs : List Booking) (told : List Advice) → done ++ bs ≡ book
    → AllByRecursion (λ b. may_confirm grid book b ≡ false) bs → (pass grid done told bs).bookings ≡ book
pass_none grid book done [] told is none = sym (append-nil done) ∙ is
pass_none grid book done (b ∷ bs) told is none =
    cases (may_confirm grid (done ++ b ∷ bs) b) (ap (λ (l : List Booking). may_confirm grid l b) is ∙ none.0)
    (pass_none grid book (done ++ b ∷ []) bs told (append_assoc done (b ∷ []) bs ∙ is) none.1)
  where
    cases : (t : Bool) → t ≡ false → (pass grid (done ++ b ∷ []) told bs).bookings ≡ book
        → (if t then pass grid (done ++ confirmed b ∷ []) (told ++ advice_of b ∷ []) bs else pass grid (done ++ b ∷ []) told bs).bookings ≡ book
    cases true e rest = absurd cc
    cases false e rest = rest

-- behind a cut of one limit each booking is as it was
pub pass_cut : (grid : Ladders) (bookings : List Booking) (flight leg class limit wait : ℕ) → NoneFits grid bookings
    → IfSome (step_of (ladder_at grid flight leg) class) (λ s. limit ≤ s.limit)
    → (pass (limits_with grid flight leg class limit wait) [] [] bookings).bookings ≡ bookings
pass_cut grid bookings flight leg class limit wait quiet less =
    let new : Ladders = limits_with grid flight leg class limit wait in
    pass_none new bookings [] bookings [] refl
    (quiet_under grid new bookings (λ (place : Place) (k : ℕ). room_less grid (held bookings) flight leg class limit wait place k less) quiet)
