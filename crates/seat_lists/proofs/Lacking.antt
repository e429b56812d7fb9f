-- Whoever waits after a journal lacks seats.
use Rattle.std.proofs.Common.{◌≡◌, ◌<◌, ◌-◌, ◌&&◌, ℕ, Bool, true, false, nat_le, List, [], ◌∷◌, arith, refl}
use Rattle.std.specs.List.{AllByRecursion}
use Rattle.std.proofs.lemmas.Bool.Decides.{nat_tests}
use Rattle.seat_rules.specs.Bookings.{is_waiting}
use Rattle.seat_rules.specs.Sequential.{NoneFits, may_confirm, room_left, state_of}
use Rattle.seat_rules.proofs.History.Lines.{each_replay}
use Rattle.seat_rules.proofs.Passes.Quiet.{quiet_answer}
use Rattle.seat_lists.proofs.Common.{Booking, State, replay}
use Rattle.seat_lists.specs.Passing.{WaitersLackSeats, waiting_of}
use Rattle.seat_lists.specs.Waiting.{lacked}

other_false : (t u : Bool) → (t && u) ≡ false → t ≡ true → u ≡ false
other_false true u e is = e
other_false false u e is = absurd cc

lacks : (s : State) (b : Booking) → may_confirm s.grid s.bookings b ≡ false → is_waiting b.status ≡ true
    → 0 < lacked s b
lacks s b none waits =
    let over : nat_le b.seats (room_left s b.place b.class) ≡ false = other_false (is_waiting b.status) (nat_le b.seats (room_left s b.place b.class)) none waits in
    beyond b.seats (room_left s b.place b.class) over
  where
    beyond : (n m : ℕ) → nat_le n m ≡ false → 0 < n - m
    beyond n m over =
        let less : m < n = grind (arith, nat_tests) in
        omega (arith, less)

all_lack : (s : State) (bs : List Booking) → AllByRecursion (λ b. may_confirm s.grid s.bookings b ≡ false) bs
    → AllByRecursion (λ b. 0 < lacked s b) (waiting_of bs)
all_lack s [] none = tt
all_lack s (b ∷ bs) none = cases (is_waiting b.status) refl (none.0) (all_lack s bs none.1) where
  cases : (t : Bool) → is_waiting b.status ≡ t → may_confirm s.grid s.bookings b ≡ false
      → AllByRecursion (λ b. 0 < lacked s b) (waiting_of bs) → AllByRecursion (λ b. 0 < lacked s b) (waiting_of (b ∷ bs))
  cases true e none rest = rw e (lacks s b none e, rest)
  cases false e none rest = rw e rest

pub waiters_lack_seats : WaitersLackSeats
waiters_lack_seats grid journal =
    let quiet : NoneFits (replay grid journal).grid (replay grid journal).bookings = each_replay (λ s. NoneFits s.grid s.bookings) quiet_answer (state_of grid []) tt journal in
    all_lack (replay grid journal) (replay grid journal).bookings quiet
