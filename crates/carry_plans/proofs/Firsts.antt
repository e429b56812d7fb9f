-- Those who held come first, whoever is asked for behind them.
use Rattle.std.proofs.Common.{◌≡◌, ◌≤◌, ℕ, ◌+◌, Bool, true, false, nat_le, List, [], ◌∷◌, ◌++◌, find, length, Option, Some, None, arith, refl, ap, sym, subst, ◌∙◌}
use Rattle.std.specs.List.{AllByRecursion}
use Rattle.std.proofs.lemmas.Bool.{and_parts}
use Rattle.std.proofs.lemmas.List.Sums.{sum_by-cons}
use Rattle.airline_base.specs.declared.place.Place.{Place}
use Rattle.seat_journal.specs.declared.entry.Work.TheVariants.{Seats}
use Rattle.seat_nesting.specs.Nesting.{IsWithin, Ladders, ladder_at, may_wait, room}
use Rattle.seat_nesting.proofs.Rooms.{within_same}
use Rattle.seat_rules.specs.Bookings.{IsApart, held, is_for, is_held, is_waiting, seats_on, waiting, waits_on}
use Rattle.seat_rules.specs.Sequential.{State, answer, confirmed, may_confirm, pass, state_of}
use Rattle.seat_rules.specs.declared.booking.Booking.{Booking}
use Rattle.seat_rules.specs.declared.booking.Status.{Status}
use Rattle.seat_rules.specs.declared.booking.Status.TheVariants.{Held, Waiting}
use Rattle.seat_rules.proofs.Filters.{all_pass, sum_kept}
use Rattle.seat_rules.proofs.Step.Limits.{each_pass}
use Rattle.seat_carrying.specs.Carrying.{anew, asked_from, command_for, in_turn, sells, those_held, those_waiting, wait_of}
use Rattle.seat_carrying.proofs.Asking.{ask_for, asked_both}
use Rattle.seat_carrying.proofs.Carried.{all_held, all_waiting, apart_ahead, hold_all}
use Rattle.seat_carrying.proofs.Turns.{apart_turn}
use Rattle.carry_limits.specs.Changes.{HasSeatsFor}
use Rattle.carry_plans.specs.Promises.{ComeFirst}

abbrev AllHold : List Booking → Type 0
AllHold bs = AllByRecursion (λ b. b.status ≡ Held) bs

-- ---- first ones stay first

first_itself : (bs : List Booking) → ComeFirst bs bs
first_itself [] = tt
first_itself (b ∷ bs) = (refl, first_itself bs)

first_longer : (front all more : List Booking) → ComeFirst front all → ComeFirst front (all ++ more)
first_longer [] all more is = tt
first_longer (b ∷ bs) [] more is = absurd is
first_longer (b ∷ bs) (x ∷ all) more is = (is.0, first_longer bs all more is.1)

not_both : (b : Booking) → b.status ≡ Held → is_waiting b.status ≡ true → ⊥
not_both b holds waits = let wrong : false ≡ true = ap is_waiting (sym holds) ∙ waits in cc

first_confirmed : (front : List Booking) → AllHold front → (done : List Booking) (b : Booking) (bs : List Booking) → is_waiting b.status ≡ true
    → ComeFirst front (done ++ b ∷ bs) → ComeFirst front (done ++ confirmed b ∷ bs)
first_confirmed [] hold done b bs waits is = tt
first_confirmed (x ∷ front) hold [] b bs waits is = absurd (not_both b (ap (λ (y : Booking). y.status) is.0 ∙ hold.0) waits)
first_confirmed (x ∷ front) hold (y ∷ done) b bs waits is = (is.0, first_confirmed front hold.1 done b bs waits is.1)

first_passed : (grid : Ladders) (front all : List Booking) → AllHold front → ComeFirst front all → ComeFirst front (pass grid [] [] all).bookings
first_passed grid front all hold is =
    each_pass (λ (l : List Booking). ComeFirst front l) grid
    (λ done b bs h may. first_confirmed front hold done b bs (waits (done ++ b ∷ bs) b may) h) [] all [] is
  where
    waits : (book : List Booking) (b : Booking) → may_confirm grid book b ≡ true → is_waiting b.status ≡ true
    waits book b may = let parts = and_parts (is_waiting b.status) (nat_le b.seats (room grid (held book) b.place b.class)) may in parts.0

-- ---- whoever waits is asked for behind them

asked_plain : (grid : Ladders) (front done : List Booking) → AllHold front → ComeFirst front done → (n : ℕ) (locator : List ℕ) (place : Place)
    (class seats : ℕ) → ComeFirst front (answer (state_of grid done) n (Seats (ask_for locator place class seats Waiting))).state.bookings
asked_plain grid front done hold is n locator place class seats =
    cases (find (is_for locator place class) done) (may_wait grid (waiting done) place class seats) refl refl
  where
    new : Booking
    new = record { number = n; locator = locator; place = place; class = class; seats = seats; status = Waiting }

    cases : (o : Option Booking) (t : Bool) → find (is_for locator place class) done ≡ o → may_wait grid (waiting done) place class seats ≡ t
        → ComeFirst front (answer (state_of grid done) n (Seats (ask_for locator place class seats Waiting))).state.bookings
    cases (Some b) t e g = rw e is
    cases None true e g = rw (e, g) (first_passed grid front (done ++ new ∷ []) hold (first_longer front done (new ∷ []) is))
    cases None false e g = rw (e, g) is

first_asked : (front : List Booking) → AllHold front → (s : State) (n : ℕ) (bs : List Booking) → AllByRecursion (λ b. b.status ≡ Waiting) bs
    → ComeFirst front s.bookings → ComeFirst front (asked_from s n bs).bookings
first_asked front hold s n [] wait is = is
first_asked front hold s n (b ∷ bs) wait is =
    first_asked front hold (answer s n (Seats (command_for b))).state (n + 1) bs wait.1 one
  where
    Goal : Status → Type 0
    Goal status = ComeFirst front (answer (state_of s.grid s.bookings) n (Seats (ask_for b.locator b.place b.class b.seats status))).state.bookings

    one : ComeFirst front (answer s n (Seats (command_for b))).state.bookings
    one = subst Goal (sym wait.0) (asked_plain s.grid front s.bookings hold is n b.locator b.place b.class b.seats)

-- ---- those who held

anew_hold : (n : ℕ) (bs : List Booking) → AllHold bs → AllHold (anew n bs)
anew_hold n [] hold = tt
anew_hold n (b ∷ bs) hold = (hold.0, anew_hold (n + 1) bs hold.1)

held_waits : (f l k : ℕ) (b : Booking) → b.status ≡ Held → waits_on f l k b ≡ 0
held_waits f l k b is = let one : is_held b.status ≡ true = ap is_held is in rw one refl

none_waits : (f l k : ℕ) (bs : List Booking) → AllHold bs → waiting bs f l k ≡ 0
none_waits f l k [] hold = refl
none_waits f l k (b ∷ bs) hold = omega (arith, sum_by-cons (waits_on f l k) b bs, held_waits f l k b hold.0, none_waits f l k bs hold.1)

module _ (grid : Ladders) (all : List Booking) (line : ℕ) (has : HasSeatsFor grid all) (apart : IsApart all) where
  hold : AllHold (those_held all)
  hold = all_held all

  within : (f l : ℕ) → IsWithin (ladder_at grid f l) (held (those_held all) f l)
  within f l =
      within_same (ladder_at grid f l) (held (those_held all) f l) (held all f l)
      (λ k. sum_kept (λ (b : Booking). is_held b.status) (seats_on f l k) (λ b e. rw e refl) all) (has.within f l)

  few : (f l k : ℕ) → waiting (those_held all) f l k ≤ wait_of (ladder_at grid f l) k
  few f l k = omega (arith, none_waits f l k (those_held all) hold)

  again : asked_from (state_of grid []) line (those_held all) ≡ state_of grid (anew line (those_held all))
  again =
      hold_all grid line (those_held all) within few [] (those_held all) line (omega arith) hold
      (all_pass (λ (b : Booking). is_held b.status) (λ b. sells grid b.place b.class ≡ true) all has.placed)
      (apart_ahead (those_held all) (those_waiting all) (apart_turn all apart))
      (λ f l k. omega arith)

  pub held_come_first : ComeFirst (anew line (those_held all)) (asked_from (state_of grid []) line (in_turn all)).bookings
  held_come_first =
      let n : ℕ = line + length (those_held all) in
      let front : List Booking = anew line (those_held all) in
      let both : asked_from (state_of grid []) line (in_turn all) ≡ asked_from (state_of grid front) n (those_waiting all) =
      asked_both (those_held all) (those_waiting all) (state_of grid []) line n refl
      ∙ ap (λ (s : State). asked_from s n (those_waiting all)) again in
      subst (λ (s : State). ComeFirst front s.bookings) (sym both)
      (first_asked front (anew_hold line (those_held all) hold) (state_of grid front) n (those_waiting all) (all_waiting all) (first_itself front))
