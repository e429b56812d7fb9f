-- What was held, with what came and without what went, is what is held.
use Rattle.std.proofs.Common.{◌≡◌, ◌==◌, ◌&&◌, ℕ, ◌+◌, ◌-◌, ◌≤◌, Bool, true, false, nat_eq, List, [], ◌∷◌, ◌++◌, length, Option, Some, None, find, if◌then◌else◌, arith, refl, ap, sym, subst, ◌∙◌}
use Rattle.std.specs.Cmp.Lexicographic.{pointwise}
use Rattle.std.proofs.lemmas.List.Sums.{sum_by_push, sum_by-append}
use Rattle.airline_base.proofs.Tests.{both_true}
use Rattle.seat_rules.proofs.Common.{Place, Ladders, Command, Work, Seats, Limit, Sale, Entry, IsLegal, is_for, is_held, is_waiting, State, Outcome, answer, changed_by, sales_by, pass, reduced, booking_of, refused, booked, replay, next_line}
use Rattle.seat_rules.specs.Bookings.{same_place}
use Rattle.seat_rules.specs.declared.booking.Booking.{Booking}
use Rattle.seat_rules.specs.declared.booking.Status.{Status}
use Rattle.seat_rules.specs.declared.booking.Status.TheVariants.{Held, Waiting}
use Rattle.seat_rules.specs.Totals.{is_confirmation, seats_asked}
use Rattle.seat_rules.proofs.Step.Outcomes.{each_outcome, Refusal, Listing, code_of, listing_code}
use Rattle.seat_rules.proofs.Step.Outcomes.Refusal.{No, Unable, Closed}
use Rattle.seat_rules.proofs.Step.Outcomes.Listing.{Needed, Sold}
use Rattle.seat_rules.proofs.History.Faults.{place_same, nat_same}
use Rattle.seat_rules.proofs.History.Legal.{each_legal, legal_prefix}
use Rattle.seat_rules.proofs.History.Lines.{replay_next}
use Rattle.seat_rules.proofs.History.Prefixes.{begins_longer}
use Rattle.seat_rules.proofs.Passes.Weights.{pass_weighs, reduced_weighs, found_passes}
use Rattle.seat_pickup.specs.Moves.{Where, advised, asked, cancelled_by, confirmed_by, held_in, holds, placed, sold_by, sum_of, those}
use Rattle.seat_pickup.specs.Pickups.{MovesBalance}

none_if : (h : Bool) → ◌≡◌ {A = ℕ} (if h then 0 else 0) 0
none_if true = refl
none_if false = refl

-- ---- a pass, and a cancellation

waiting_none : (on : Where) (f k : ℕ) (b : Booking) (s : Status) → b.status ≡ s → is_waiting s ≡ true → holds on f k b ≡ 0
waiting_none on f k b Held e h = absurd cc
waiting_none on f k b Waiting e h = rw e refl

pass_moves : (on : Where) (f k : ℕ) (grid : Ladders) (xs : List Booking)
    → held_in on (pass grid [] [] xs).bookings f k ≡ held_in on xs f k + sum_of (advised on) (pass grid [] [] xs).advices f k
pass_moves on f k grid xs =
    let h = pass_weighs (holds on f k) (λ a. advised on a f k) (λ b w. waiting_none on f k b b.status refl w) (λ b. refl) grid [] xs [] in
    omega (arith, h)

less_held : (h t : Bool) (m n : ℕ) → n ≤ m
    → (if h && t then m - n else 0) + (if h && t then n else 0) ≡ (if h && t then m else 0)
less_held true true m n le = omega arith
less_held true false m n le = refl
less_held false t m n le = refl

-- what a booking gives back
abbrev pub gives_at : Where → ℕ → ℕ → ℕ → Booking → ℕ
gives_at on f k n b = (if is_held b.status && on b.place b.class f k then n else 0)

reduced_moves : (on : Where) (f k : ℕ) (test : Booking → Bool) (n : ℕ) (xs : List Booking) (b : Booking) → find test xs ≡ Some b
    → n ≤ b.seats → held_in on (reduced test n xs) f k + gives_at on f k n b ≡ held_in on xs f k
reduced_moves on f k test n xs b found le =
    reduced_weighs (holds on f k) (gives_at on f k n) test n
    (λ x le'. less_held (is_held x.status) (on x.place x.class f k) x.seats n le')
    (λ x same. ap (λ (m : ℕ). if is_held x.status && on x.place x.class f k then m else 0) same)
    xs b found le

-- the booking that is found is of the place and class that are asked for
found_there : (on : Where) (f k : ℕ) (c : Command) (place : Place) (xs : List Booking) (b : Booking)
    → find (is_for c.locator place c.class) xs ≡ Some b
    → gives_at on f k c.seats b ≡ those on place c.class (if is_held b.status then c.seats else 0) f k
found_there on f k c place xs b found =
    let is = found_passes (is_for c.locator place c.class) xs b found in
    let two = both_true (pointwise nat_eq b.locator c.locator && same_place b.place place) (b.class == c.class) is in
    let one = both_true (pointwise nat_eq b.locator c.locator) (same_place b.place place) two.0 in
    let here : b.place ≡ place = place_same b.place place one.1 in
    let class : b.class ≡ c.class = nat_same b.class c.class two.1 in
    ap (λ (p : Place). if is_held b.status && on p b.class f k then c.seats else 0) here
    ∙ ap (λ (n : ℕ). if is_held b.status && on place n f k then c.seats else 0) class
    ∙ inward (is_held b.status) (on place c.class f k) c.seats
  where
    inward : (h t : Bool) (n : ℕ) → (if h && t then n else 0) ≡ (if t then (if h then n else 0) else 0)
    inward true t n = refl
    inward false true n = refl
    inward false false n = refl

-- ---- one line

none_those : (on : Where) (place : Place) (class f k : ℕ) → those on place class 0 f k ≡ 0
none_those on place class f k = none_if (on place class f k)

none_asked : (on : Where) (w : Work) (f k : ℕ) → asked on w 0 f k ≡ 0
none_asked on (Seats c) f k = of c.place where
  of : (o : Option Place) → placed on o c.class 0 f k ≡ 0
  of None = refl
  of (Some place) = none_those on place c.class f k
none_asked on (Limit c) f k = refl
none_asked on (Sale c) f k = refl

abbrev pub Balances : Where → ℕ → ℕ → State → Work → Outcome → Type 0
Balances on f k s w o = held_in on o.state.bookings f k + asked on w o.released f k
    ≡ held_in on s.bookings f k + ((if is_confirmation o.reply then asked on w (seats_asked w) f k else 0) + sum_of (advised on) o.advices f k)

answer_balances : (on : Where) (f k : ℕ) (s : State) (number : ℕ) (w : Work) → Balances on f k s w (answer s number w)
answer_balances on f k s number =
    each_outcome (Balances on f k s) s number refuses
    (λ c place at none fits.
    let here : asked on (Seats c) c.seats f k ≡ those on place c.class c.seats f k = ap (λ (o : Option Place). placed on o c.class c.seats f k) at in
    omega (arith, sum_by_push (holds on f k) s.bookings (booking_of number c place Held), none_asked on (Seats c) f k, here))
    (λ c place at none over why. waits c place why)
    (λ c place at none. omega (
      arith,
      sum_by_push (holds on f k) s.bookings (booking_of number c place Waiting),
      pass_moves on f k s.grid (s.bookings ++ booking_of number c place Waiting ∷ []),
      none_asked on (Seats c) f k,
    ))
    (λ c place b at found le.
    let given : ℕ = (if is_held b.status then c.seats else 0) in
    let here : asked on (Seats c) given f k ≡ those on place c.class given f k = ap (λ (o : Option Place). placed on o c.class given f k) at in
    omega (
      arith,
      reduced_moves on f k (is_for c.locator place c.class) c.seats s.bookings b found le,
      found_there on f k c place s.bookings b found,
      here,
      pass_moves on f k s.grid (reduced (is_for c.locator place c.class) c.seats s.bookings),
    ))
    (λ c may. omega (arith, pass_moves on f k (changed_by s.grid c) s.bookings))
    (λ c may. omega (arith, pass_moves on f k (sales_by s.grid c) s.bookings))
  where
    waits : (c : Command) (place : Place) (why : Listing)
        → Balances on f k s (Seats c) (booked s (booking_of number c place Waiting) (listing_code why))
    waits c place Needed = omega (arith, sum_by_push (holds on f k) s.bookings (booking_of number c place Waiting), none_asked on (Seats c) f k)
    waits c place Sold = omega (arith, sum_by_push (holds on f k) s.bookings (booking_of number c place Waiting), none_asked on (Seats c) f k)

    refuses : (w : Work) (r : Refusal) → Balances on f k s w (refused s (code_of r))
    refuses w No = omega (arith, none_asked on w f k)
    refuses w Unable = omega (arith, none_asked on w f k)
    refuses w Closed = omega (arith, none_asked on w f k)

-- ---- all lines

abbrev pub IsBalanced : Where → ℕ → ℕ → Ladders → List Entry → Type 0
IsBalanced on f k grid journal = held_in on (replay grid journal).bookings f k + sum_of (cancelled_by on) journal f k
    ≡ sum_of (sold_by on) journal f k + sum_of (confirmed_by on) journal f k

balanced_next : (on : Where) (f k : ℕ) (grid : Ladders) (past : List Entry) (session call : ℕ) (w : Work)
    → IsBalanced on f k grid past → IsBalanced on f k grid (past ++ next_line grid past session call w ∷ [])
balanced_next on f k grid past session call w h =
    let e : Entry = next_line grid past session call w in
    let one = answer_balances on f k (replay grid past) (length past + 1) w in
    omega (
      arith,
      h,
      one,
      ap (λ (s : State). held_in on s.bookings f k) (replay_next grid past e),
      sum_by_push (λ (x : Entry). sold_by on x f k) past e,
      sum_by_push (λ (x : Entry). cancelled_by on x f k) past e,
      sum_by_push (λ (x : Entry). confirmed_by on x f k) past e,
    )

pub balanced : (on : Where) (f k : ℕ) (grid : Ladders) (journal : List Entry) → IsLegal grid journal → IsBalanced on f k grid journal
balanced on f k grid journal legal =
    each_legal grid (IsBalanced on f k grid)
    (λ past e l next h. let P : Entry → Type 0 = λ x. IsBalanced on f k grid (past ++ x ∷ []) in subst P (sym next.line) (balanced_next on f k grid past e.session e.call e.work h))
    [] journal refl legal

pub moves_balance : MovesBalance
moves_balance on grid older since f k legal =
    let all = balanced on f k grid (older ++ since) legal in
    let front = balanced on f k grid older (legal_prefix grid older (older ++ since) (begins_longer older since) legal) in
    omega (
      arith,
      all,
      front,
      sum_by-append (λ (x : Entry). sold_by on x f k) older since,
      sum_by-append (λ (x : Entry). cancelled_by on x f k) older since,
      sum_by-append (λ (x : Entry). confirmed_by on x f k) older since,
    )
