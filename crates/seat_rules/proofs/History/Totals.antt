-- The seats held are those confirmed less those released.
use Rattle.std.proofs.Common.{◌≡◌, ℕ, ◌+◌, ◌-◌, ◌≤◌, Bool, true, false, List, [], ◌∷◌, ◌++◌, length, Some, find, if◌then◌else◌, arith, refl, ap, sym, subst}
use Rattle.seat_rules.proofs.Common.{Place, Ladders, Booking, Status, Held, Waiting, Command, Work, Seats, Entry, is_for, is_held, is_waiting, State, Outcome, answer, changed_by, sales_by, pass, reduced, booking_of, refused, booked, replay, next_line}
use Rattle.std.proofs.lemmas.List.Sums.{sum_by_push}
use Rattle.seat_rules.specs.Totals.{is_confirmation, advised, seats_asked, confirmed_by, released_by, totals_of, held_by, seats_held}
use Rattle.seat_rules.specs.Laws.{HeldSeatsAreTheTotals}
use Rattle.seat_rules.proofs.Step.Outcomes.{each_outcome, Refusal, Listing, code_of, listing_code}
use Rattle.seat_rules.proofs.Step.Outcomes.Refusal.{No, Unable, Closed}
use Rattle.seat_rules.proofs.Step.Outcomes.Listing.{Needed, Sold}
use Rattle.seat_rules.proofs.History.Lines.{replay_next}
use Rattle.seat_rules.proofs.History.Legal.{each_legal}
use Rattle.seat_rules.proofs.Passes.Weights.{pass_weighs, reduced_weighs}

waiting_none : (b : Booking) (s : Status) → b.status ≡ s → is_waiting s ≡ true → held_by b ≡ 0
waiting_none b Held e h = absurd cc
waiting_none b Waiting e h = rw e refl

-- a pass holds what it tells of
pass_sums : (grid : Ladders) (xs : List Booking)
    → seats_held (pass grid [] [] xs).bookings ≡ seats_held xs + advised (pass grid [] [] xs).advices
pass_sums grid xs =
    let h = pass_weighs held_by (λ a. a.seats) (λ b w. waiting_none b b.status refl w) (λ b. refl) grid [] xs [] in omega (arith, h)

less_held : (t : Bool) (m n : ℕ) → n ≤ m → (if t then m - n else 0) + (if t then n else 0) ≡ (if t then m else 0)
less_held true m n le = omega arith
less_held false m n le = refl

-- a cancellation gives up what it releases
reduced_sums : (test : Booking → Bool) (n : ℕ) (xs : List Booking) (b : Booking) → find test xs ≡ Some b → n ≤ b.seats
    → seats_held (reduced test n xs) + (if is_held b.status then n else 0) ≡ seats_held xs
reduced_sums test n xs b found le =
    reduced_weighs held_by (λ x. if is_held x.status then n else 0) test n
    (λ x le'. less_held (is_held x.status) x.seats n le')
    (λ x same. ap (λ (m : ℕ). if is_held x.status then m else 0) same)
    xs b found le

-- one step
abbrev pub Balances : State → Work → Outcome → Type 0
Balances s w o = seats_held o.state.bookings + o.released ≡ seats_held s.bookings + ((if is_confirmation o.reply then seats_asked w else 0) + advised o.advices)

pub answer_balances : (s : State) (number : ℕ) (w : Work) → Balances s w (answer s number w)
answer_balances s number =
    each_outcome (Balances s) s number refuses
    (λ c place at none fits. omega (arith, sum_by_push held_by s.bookings (booking_of number c place Held)))
    (λ c place at none over why. waits c place why)
    (λ c place at none. omega (arith, sum_by_push held_by s.bookings (booking_of number c place Waiting), pass_sums s.grid (s.bookings ++ booking_of number c place Waiting ∷ [])))
    (λ c place b at found le. omega (
      arith,
      reduced_sums (is_for c.locator place c.class) c.seats s.bookings b found le,
      pass_sums s.grid (reduced (is_for c.locator place c.class) c.seats s.bookings),
    ))
    (λ c may. omega (arith, pass_sums (changed_by s.grid c) s.bookings))
    (λ c may. omega (arith, pass_sums (sales_by s.grid c) s.bookings))
  where
    waits : (c : Command) (place : Place) (why : Listing)
        → Balances s (Seats c) (booked s (booking_of number c place Waiting) (listing_code why))
    waits c place Needed = omega (arith, sum_by_push held_by s.bookings (booking_of number c place Waiting))
    waits c place Sold = omega (arith, sum_by_push held_by s.bookings (booking_of number c place Waiting))

    refuses : (w : Work) (r : Refusal) → Balances s w (refused s (code_of r))
    refuses w No = omega arith
    refuses w Unable = omega arith
    refuses w Closed = omega arith

abbrev pub IsBalanced : Ladders → List Entry → Type 0
IsBalanced grid journal = seats_held (replay grid journal).bookings + (totals_of journal).released ≡ (totals_of journal).confirmed

balanced_next : (grid : Ladders) (past : List Entry) (session call : ℕ) (w : Work) → IsBalanced grid past
    → IsBalanced grid (past ++ next_line grid past session call w ∷ [])
balanced_next grid past session call w h =
    let e : Entry = next_line grid past session call w in
    let one = answer_balances (replay grid past) (length past + 1) w in
    omega (arith, h, one, ap (λ (s : State). seats_held s.bookings) (replay_next grid past e), sum_by_push confirmed_by past e, sum_by_push released_by past e)

pub held_seats_are_the_totals : HeldSeatsAreTheTotals
held_seats_are_the_totals grid journal legal =
    each_legal grid (IsBalanced grid)
    (λ past e l next h. let P : Entry → Type 0 = λ x. IsBalanced grid (past ++ x ∷ []) in subst P (sym next.line) (balanced_next grid past e.session e.call e.work h))
    [] journal refl legal
