-- One step: how many bookings it leaves, and that they stay within the limits.
use Rattle.std.proofs.Common.{◌≡◌, ◌≢◌, ◌==◌, ◌&&◌, ℕ, ◌+◌, ◌-◌, ◌≤◌, Bool, true, false, nat_le, List, [], ◌∷◌, ◌++◌, length, if◌then◌else◌, arith, refl, ap, subst, ◌∙◌, length-append, append_assoc}
use Rattle.seat_rules.proofs.Common.{Place, Ladders, ladder_at, room_on, room, IsWithin, HasLadders, covers, Booking, Held, Waiting, Change, Command, Work, Status, Advice, is_for, is_held, is_waiting, seats_on, held, State, state_of, room_left, reduced, booking_of, answer, changed_by, may_change, sales_by, pass, may_confirm, confirmed, advice_of, KeepsLimits}
use Rattle.std.proofs.lemmas.Bool.Decides.{nat_tests}
use Rattle.std.proofs.lemmas.List.Sums.{sum_by-cons, sum_by-append, sum_by_push}
use Rattle.seat_nesting.proofs.LimitChanges.{has_ladders_with, length_legs, within_set}
use Rattle.seat_nesting.proofs.SaleChanges.{has_ladders_sale, length_legs_sale, within_sale_set}
use Rattle.seat_rules.proofs.Step.Outcomes.{each_grid, each_outcome}
use Rattle.seat_rules.proofs.Step.Reduced.{length_reduced}
use Rattle.std.proofs.lemmas.List.{append-nil}
use Rattle.seat_rules.specs.Inventory.{HasSameLegs}
use Rattle.seat_rules.proofs.Counters.Limits.{within_more}
use Rattle.seat_rules.proofs.Passes.Quiet.{held_at}
use Rattle.seat_nesting.proofs.Rooms.{within_less, least_le, room_free_on}
use Rattle.airline_base.proofs.Tests.{both_true}
use Rattle.seat_rules.proofs.Passes.ByTable.{waiting_light}

-- what holds of the bookings after a pass
pub each_pass : (P : List Booking → Type 0) (grid : Ladders)
    → ((done : List Booking) (b : Booking) (bs : List Booking) → P (done ++ b ∷ bs)
    → may_confirm grid (done ++ b ∷ bs) b ≡ true → P (done ++ confirmed b ∷ bs))
    → (done bs : List Booking) (told : List Advice) → P (done ++ bs) → P (pass grid done told bs).bookings
each_pass P grid confirm done [] told h = subst P (append-nil done) h
each_pass P grid confirm done (b ∷ bs) told h =
    cases (may_confirm grid (done ++ b ∷ bs) b) refl
    (λ (x : Booking) (t : List Advice) (h' : P ((done ++ x ∷ []) ++ bs)). each_pass P grid confirm (done ++ x ∷ []) bs t h')
  where
    cases : (t : Bool) → may_confirm grid (done ++ b ∷ bs) b ≡ t
        → ((x : Booking) (t : List Advice) → P ((done ++ x ∷ []) ++ bs) → P (pass grid (done ++ x ∷ []) t bs).bookings)
        → P (pass grid done told (b ∷ bs)).bookings
    cases true e rest = rw e (rest (confirmed b) (told ++ advice_of b ∷ []) (rw append_assoc (confirm done b bs h e)))
    cases false e rest = rw e (rest b told (rw append_assoc h))

pub few_answer : (s : State) (number : ℕ) (w : Work) → length (answer s number w).state.bookings ≤ length s.bookings + 1
few_answer s number =
    each_outcome (λ w o. length o.state.bookings ≤ length s.bookings + 1) s number
    (λ w r. omega arith)
    (λ c place at none fits. omega (arith, length-append s.bookings (booking_of number c place Held ∷ [])))
    (λ c place at none over why. omega (arith, length-append s.bookings (booking_of number c place Waiting ∷ [])))
    (λ c place at none. after_pass s.grid (s.bookings ++ booking_of number c place Waiting ∷ []) (omega (arith, length-append s.bookings (booking_of number c place Waiting ∷ []))))
    (λ c place b at found le. after_pass s.grid (reduced (is_for c.locator place c.class) c.seats s.bookings) (omega (arith, length_reduced (is_for c.locator place c.class) c.seats s.bookings)))
    (λ c may. after_pass (changed_by s.grid c) s.bookings (omega arith))
    (λ c may. after_pass (sales_by s.grid c) s.bookings (omega arith))
  where
    after_pass : (grid : Ladders) (xs : List Booking) → length xs ≤ length s.bookings + 1
        → length (pass grid [] [] xs).bookings ≤ length s.bookings + 1
    after_pass grid xs h =
        each_pass (λ l. length l ≤ length s.bookings + 1) grid (λ done b bs h e. omega (arith, h, length-append done (b ∷ bs), length-append done (confirmed b ∷ bs))) [] xs [] h

-- a place that covers a leg
covers_facts : (flight leg : ℕ) (p : Place) → covers flight leg p ≡ true
    → (p.flight ≡ flight) × (p.from ≤ leg) × (leg ≤ p.to)
covers_facts flight leg p e = cases (p.flight == flight) (nat_le p.from leg) (nat_le leg p.to) refl refl refl e where
  cases : (a b d : Bool) → (p.flight == flight) ≡ a → nat_le p.from leg ≡ b → nat_le leg p.to ≡ d
      → ((a && b) && d) ≡ true → (p.flight ≡ flight) × (p.from ≤ leg) × (leg ≤ p.to)
  cases true true true x y z h = (grind (arith, nat_tests), grind (arith, nat_tests), grind (arith, nat_tests))
  cases true true false x y z h = absurd cc
  cases true false d x y z h = absurd cc
  cases false b d x y z h = absurd cc

-- the room of a place is at most that of a leg that it covers
pub room_le : (grid : Ladders) (bookings : List Booking) (p : Place) (class flight leg : ℕ) → covers flight leg p ≡ true
    → room_left (state_of grid bookings) p class ≤ room_on (ladder_at grid flight leg) (held bookings flight leg) class
room_le grid bookings p class flight leg e =
    let h = covers_facts flight leg p e in
    let order : nat_le p.from p.to ≡ true = let le : p.from ≤ p.to = omega (arith, h.1, h.2) in grind (arith, nat_tests) in
    let f : ℕ → ℕ = λ k. room_on (ladder_at grid p.flight k) (held bookings p.flight k) class in
    let Q : ℕ → Type 0 = λ x. room_left (state_of grid bookings) p class ≤ room_on (ladder_at grid x leg) (held bookings x leg) class in
    subst Q h.0 (rw order (least_le f p.from (p.to - p.from) leg h.1 (omega (arith, h.1, h.2))))

held_push : (bookings : List Booking) (b : Booking) (flight leg class : ℕ)
    → held (bookings ++ b ∷ []) flight leg class ≡ held bookings flight leg class + seats_on flight leg class b
held_push bookings b flight leg class = sum_by_push (seats_on flight leg class) bookings b

-- one more booking, whose seats fit
keeps_more : (grid : Ladders) (bookings : List Booking) (number : ℕ) (c : Command) (place : Place) → HasLadders grid
    → KeepsLimits grid bookings
    → c.seats ≤ room_left (state_of grid bookings) place c.class
    → KeepsLimits grid (bookings ++ booking_of number c place Held ∷ [])
keeps_more grid bookings number c place ladders keeps fits flight leg = cases (covers flight leg place) refl where
  b : Booking
  b = booking_of number c place Held

  new : ℕ → ℕ
  new = held (bookings ++ booking_of number c place Held ∷ []) flight leg

  here : covers flight leg place ≡ true → seats_on flight leg c.class (booking_of number c place Held) ≡ c.seats
  here e = let same : (c.class == c.class) ≡ true = grind (arith, nat_tests) in rw (e, same) refl

  other : (k : ℕ) → covers flight leg place ≡ true → k ≢ c.class
      → seats_on flight leg k (booking_of number c place Held) ≡ 0
  other k e ne = let differs : (c.class == k) ≡ false = grind (arith, nat_tests) in rw (e, differs) refl

  away : (k : ℕ) → covers flight leg place ≡ false → seats_on flight leg k (booking_of number c place Held) ≡ 0
  away k e = rw e refl

  cases : (t : Bool) → covers flight leg place ≡ t
      → IsWithin (ladder_at grid flight leg) (held (bookings ++ booking_of number c place Held ∷ []) flight leg)
  cases true e =
      within_more (ladder_at grid flight leg) new (held bookings flight leg) c.class c.seats (
        held_push bookings b flight leg c.class ∙ ap (λ x. held bookings flight leg c.class + x) (here e),
        λ k ne. omega (arith, held_push bookings b flight leg k, other k e ne),
      )
      (ladders flight leg) (omega (arith, fits, room_le grid bookings place c.class flight leg e, room_free_on (ladder_at grid flight leg) (held bookings flight leg) c.class)) (keeps flight leg)
  cases false e =
      within_less (ladder_at grid flight leg) new (held bookings flight leg) (λ k. omega (arith, held_push bookings b flight leg k, away k e)) (keeps flight leg)

less_if : (t u : Bool) (m n : ℕ) → (if t then (if u then m - n else 0) else 0) ≤ (if t then (if u then m else 0) else 0)
less_if true true m n = omega arith
less_if true false m n = omega arith
less_if false u m n = omega arith

seats_less : (flight leg k n : ℕ) (b : Booking)
    → seats_on flight leg k (record b { seats = b.seats - n }) ≤ seats_on flight leg k b
seats_less flight leg k n b = less_if (is_held b.status) (covers flight leg b.place && (b.class == k)) b.seats n

pub held_reduced : (test : Booking → Bool) (n : ℕ) (xs : List Booking) (flight leg k : ℕ)
    → held (reduced test n xs) flight leg k ≤ held xs flight leg k
held_reduced test n [] flight leg k = omega arith
held_reduced test n (b ∷ bs) flight leg k = cases (test b) (nat_le b.seats n) refl refl (held_reduced test n bs flight leg k) where
  f : Booking → ℕ
  f = seats_on flight leg k

  cases : (t u : Bool) → test b ≡ t → nat_le b.seats n ≡ u
      → held (reduced test n bs) flight leg k ≤ held bs flight leg k
      → held (reduced test n (b ∷ bs)) flight leg k ≤ held (b ∷ bs) flight leg k
  cases true true e g _ = rw (e, g) (omega (arith, sum_by-cons f b bs))
  cases true false e g _ = rw (e, g) (omega (arith, sum_by-cons f b bs, sum_by-cons f (record b { seats = b.seats - n }) bs, seats_less flight leg k n b))
  cases false u e g rest = rw e (omega (arith, sum_by-cons f b bs, sum_by-cons f b (reduced test n bs), rest))

-- one booking confirmed, whose seats fit
keeps_confirm : (grid : Ladders) (done : List Booking) (b : Booking) (bs : List Booking) → HasLadders grid
    → KeepsLimits grid (done ++ b ∷ bs)
    → may_confirm grid (done ++ b ∷ bs) b ≡ true → KeepsLimits grid (done ++ confirmed b ∷ bs)
keeps_confirm grid done b bs ladders keeps may flight leg = cases (covers flight leg b.place) refl where
  old : ℕ → ℕ
  old = held (done ++ b ∷ bs) flight leg

  new : ℕ → ℕ
  new = held (done ++ confirmed b ∷ bs) flight leg

  tests : (is_waiting b.status ≡ true) × (nat_le b.seats (room grid (held (done ++ b ∷ bs)) b.place b.class) ≡ true)
  tests = both_true (is_waiting b.status) (nat_le b.seats (room grid (held (done ++ b ∷ bs)) b.place b.class)) may

  fits : b.seats ≤ room grid (held (done ++ b ∷ bs)) b.place b.class
  fits = let e = (both_true (is_waiting b.status) (nat_le b.seats (room grid (held (done ++ b ∷ bs)) b.place b.class)) may).1 in grind (arith, nat_tests)

  gone : (k : ℕ) → seats_on flight leg k b ≡ 0
  gone k = waiting_light flight leg k b b.status refl (both_true (is_waiting b.status) (nat_le b.seats (room grid (held (done ++ b ∷ bs)) b.place b.class)) may).0

  here : covers flight leg b.place ≡ true → seats_on flight leg b.class (confirmed b) ≡ b.seats
  here e = let same : (b.class == b.class) ≡ true = grind (arith, nat_tests) in rw (e, same) refl

  other : (k : ℕ) → covers flight leg b.place ≡ true → k ≢ b.class → seats_on flight leg k (confirmed b) ≡ 0
  other k e ne = let differs : (b.class == k) ≡ false = grind (arith, nat_tests) in rw (e, differs) refl

  away : (k : ℕ) → covers flight leg b.place ≡ false → seats_on flight leg k (confirmed b) ≡ 0
  away k e = rw e refl

  cases : (t : Bool) → covers flight leg b.place ≡ t
      → IsWithin (ladder_at grid flight leg) (held (done ++ confirmed b ∷ bs) flight leg)
  cases true e =
      within_more (ladder_at grid flight leg) new old b.class b.seats (
        omega (arith, held_at done b bs flight leg b.class, held_at done (confirmed b) bs flight leg b.class, gone b.class, here e),
        λ k ne. omega (arith, held_at done b bs flight leg k, held_at done (confirmed b) bs flight leg k, gone k, other k e ne),
      )
      (ladders flight leg) (omega (arith, fits, room_le grid (done ++ b ∷ bs) b.place b.class flight leg e, room_free_on (ladder_at grid flight leg) (held (done ++ b ∷ bs) flight leg) b.class)) (keeps flight leg)
  cases false e =
      within_less (ladder_at grid flight leg) new old
      (λ k. omega (arith, held_at done b bs flight leg k, held_at done (confirmed b) bs flight leg k, gone k, away k e)) (keeps flight leg)

-- what is set leaves the legs that there are, and their classes
pub legs_answer : (s : State) (number : ℕ) (w : Work) → HasSameLegs s.grid (answer s number w).state.grid
legs_answer s number w =
    each_grid (HasSameLegs s.grid) s number w (λ flight. refl) (λ c is may flight. length_legs s.grid c.flight c.leg c.class c.limit c.wait flight)
    (λ c is may flight. length_legs_sale s.grid c.flight c.leg c.class c.closed flight)

pub ladders_answer : (s : State) (number : ℕ) (w : Work) → HasLadders s.grid → HasLadders (answer s number w).state.grid
ladders_answer s number w h =
    each_grid HasLadders s number w h (λ c is may. has_ladders_with s.grid c.flight c.leg c.class c.limit c.wait h)
    (λ c is may. has_ladders_sale s.grid c.flight c.leg c.class c.closed h)

-- a limit that is changed is not below what is held
keeps_changed : (s : State) (c : Change) → may_change s c ≡ true → KeepsLimits s.grid s.bookings
    → KeepsLimits (changed_by s.grid c) s.bookings
keeps_changed s c may keeps = within_set s.grid (held s.bookings) c.flight c.leg c.class c.limit c.wait may keeps

pub keeps_answer : (s : State) (number : ℕ) (w : Work) → HasLadders s.grid → KeepsLimits s.grid s.bookings
    → KeepsLimits (answer s number w).state.grid (answer s number w).state.bookings
keeps_answer s number w ladders keeps =
    each_outcome (λ v o. KeepsLimits o.state.grid o.state.bookings) s number
    (λ v r. keeps)
    (λ c place at none fits. keeps_more s.grid s.bookings number c place ladders keeps fits)
    (λ c place at none over why. waits c place)
    (λ c place at none. after_pass s.grid ladders (s.bookings ++ booking_of number c place Waiting ∷ []) (waits c place))
    (λ c place b at found le. after_pass s.grid ladders (reduced (is_for c.locator place c.class) c.seats s.bookings) (less (is_for c.locator place c.class) c.seats))
    (λ c may. after_pass (changed_by s.grid c) (has_ladders_with s.grid c.flight c.leg c.class c.limit c.wait ladders) s.bookings (keeps_changed s c may keeps))
    (λ c may. after_pass (sales_by s.grid c) (has_ladders_sale s.grid c.flight c.leg c.class c.closed ladders) s.bookings (within_sale_set s.grid (held s.bookings) c.flight c.leg c.class c.closed keeps))
    w
  where
    waits : (c : Command) (place : Place) → KeepsLimits s.grid (s.bookings ++ booking_of number c place Waiting ∷ [])
    waits c place flight leg =
        within_less (ladder_at s.grid flight leg) (held (s.bookings ++ booking_of number c place Waiting ∷ []) flight leg) (held s.bookings flight leg)
        (λ k. omega (arith, held_push s.bookings (booking_of number c place Waiting) flight leg k)) (keeps flight leg)

    less : (test : Booking → Bool) (n : ℕ) → KeepsLimits s.grid (reduced test n s.bookings)
    less test n flight leg =
        within_less (ladder_at s.grid flight leg) (held (reduced test n s.bookings) flight leg) (held s.bookings flight leg)
        (λ k. held_reduced test n s.bookings flight leg k) (keeps flight leg)

    after_pass : (grid : Ladders) → HasLadders grid → (xs : List Booking) → KeepsLimits grid xs
        → KeepsLimits grid (pass grid [] [] xs).bookings
    after_pass grid h xs k = each_pass (KeepsLimits grid) grid (λ done b bs k e. keeps_confirm grid done b bs h k e) [] xs [] k
