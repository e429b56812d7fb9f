-- Where there is room for all, nobody loses: those that hold hold again, and those that wait may wait.
use Rattle.std.proofs.Common.{◌≡◌, ◌≢◌, ◌==◌, ℕ, ◌+◌, ◌≤◌, true, false, nat_le, List, [], ◌∷◌, ◌++◌, length, arith, refl, ap, sym, subst, ◌∙◌, length-append, append_assoc}
use Rattle.std.proofs.lemmas.Bool.Decides.{nat_tests}
use Rattle.std.proofs.lemmas.List.{append-nil}
use Rattle.std.proofs.lemmas.List.Sums.{sum_by-cons, sum_by-append, sum_by_push}
use Rattle.std.specs.List.{AllByRecursion}
use Rattle.airline_base.specs.declared.place.Place.{Place}
use Rattle.seat_journal.specs.declared.entry.Work.TheVariants.{Seats}
use Rattle.seat_nesting.specs.Nesting.{Ladders, IsWithin, covers, ladder_at, may_wait, room}
use Rattle.seat_nesting.proofs.Rooms.{IsMore, within_less}
use Rattle.seat_rules.specs.declared.booking.Booking.{Booking}
use Rattle.seat_rules.specs.declared.booking.Status.{Status}
use Rattle.seat_rules.specs.declared.booking.Status.TheVariants.{Held, Waiting}
use Rattle.seat_rules.specs.Bookings.{Differs, IsApart, held, is_held, is_waiting, seats_on, waiting, waits_on}
use Rattle.seat_rules.specs.Sequential.{State, answer, pass, state_of}
use Rattle.seat_rules.proofs.Filters.{each_passes}
use Rattle.seat_carrying.specs.Carrying.{AreCarried, HasRoomFor, anew, asked_from, command_for, in_turn, sells, those_held, those_waiting, wait_of}
use Rattle.seat_carrying.specs.Laws.{NobodyLoses}
use Rattle.seat_carrying.proofs.Rooms.{all_may_wait, room_enough, room_there}
use Rattle.seat_carrying.proofs.Turns.{all_turn, apart_turn, held_turn, waiting_turn}
use Rattle.seat_carrying.proofs.Asking.{anew_push, asked_both, carried_anew, carried_differs, carried_new, carried_passed, carried_push, carried_waits, listed, sold}

-- ---- lists

pub all_ahead : (P : Booking → Type 0) (xs ys : List Booking) → AllByRecursion P (xs ++ ys) → AllByRecursion P xs
all_ahead P [] ys a = tt
all_ahead P (x ∷ xs) ys a = (a.0, all_ahead P xs ys a.1)

pub all_behind : (P : Booking → Type 0) (xs ys : List Booking) → AllByRecursion P (xs ++ ys) → AllByRecursion P ys
all_behind P [] ys a = a
all_behind P (x ∷ xs) ys a = all_behind P xs ys a.1

-- those ahead of one are for something else
pub ahead_differs : (past : List Booking) (b : Booking) (bs : List Booking) → IsApart (past ++ b ∷ bs)
    → AllByRecursion (λ x. Differs x b) past
ahead_differs [] b bs h = tt
ahead_differs (x ∷ past) b bs h = ((all_behind (Differs x) past (b ∷ bs) h.0).0, ahead_differs past b bs h.1)

-- ---- seats on a leg

covered : (p : Place) (leg : ℕ) → p.from ≤ leg → leg ≤ p.to → covers p.flight leg p ≡ true
covered p leg a b =
    let flight : (p.flight == p.flight) ≡ true = grind (arith, nat_tests) in
    let from : nat_le p.from leg ≡ true = grind (arith, nat_tests) in
    let to : nat_le leg p.to ≡ true = grind (arith, nat_tests) in
    rw (flight, from, to) refl

-- with one more that is held, so many more in its class on each leg of its place
more_held : (past : List Booking) (b : Booking) (leg : ℕ) → b.status ≡ Held → b.place.from ≤ leg → leg ≤ b.place.to
    → IsMore (held (past ++ b ∷ []) b.place.flight leg) (held past b.place.flight leg) b.class b.seats
more_held past b leg is from to = record { here = here; others = others } where
  on : (k : ℕ) → held (past ++ b ∷ []) b.place.flight leg k ≡ held past b.place.flight leg k + seats_on b.place.flight leg k b
  on k = sum_by_push (seats_on b.place.flight leg k) past b

  is_one : is_held b.status ≡ true
  is_one = ap is_held is

  here : held (past ++ b ∷ []) b.place.flight leg b.class ≡ held past b.place.flight leg b.class + b.seats
  here =
      let class : (b.class == b.class) ≡ true = grind (arith, nat_tests) in
      let seats : seats_on b.place.flight leg b.class b ≡ b.seats = rw (is_one, covered b.place leg from to, class) refl in
      omega (arith, on b.class, seats)

  others : (k : ℕ) → k ≢ b.class → held (past ++ b ∷ []) b.place.flight leg k ≡ held past b.place.flight leg k
  others k other =
      let class : (b.class == k) ≡ false = grind (arith, nat_tests) in
      let seats : seats_on b.place.flight leg k b ≡ 0 = rw (is_one, covered b.place leg from to, class) refl in
      omega (arith, on k, seats)

-- and with one more that waits
more_waits : (past : List Booking) (b : Booking) (leg : ℕ) → b.status ≡ Waiting → b.place.from ≤ leg → leg ≤ b.place.to
    → waiting past b.place.flight leg b.class + b.seats ≡ waiting (past ++ b ∷ []) b.place.flight leg b.class
more_waits past b leg is from to =
    let one : is_held b.status ≡ false = ap is_held is in
    let class : (b.class == b.class) ≡ true = grind (arith, nat_tests) in
    let seats : waits_on b.place.flight leg b.class b ≡ b.seats = rw (one, covered b.place leg from to, class) refl in
    omega (arith, sum_by_push (waits_on b.place.flight leg b.class) past b, seats)

-- renumbered ones hold and wait for the same
pub held_anew : (line : ℕ) (bs : List Booking) (f l k : ℕ) → held (anew line bs) f l k ≡ held bs f l k
held_anew line [] f l k = refl
held_anew line (b ∷ bs) f l k =
    omega (arith, sum_by-cons (seats_on f l k) b bs, sum_by-cons (seats_on f l k) (record b { number = line }) (anew (line + 1) bs), held_anew (line + 1) bs f l k)

-- ---- with room for all

module _ (grid : Ladders) (line : ℕ) (bookings : List Booking)
    (within : (flight leg : ℕ) → IsWithin (ladder_at grid flight leg) (held bookings flight leg))
    (waits : (flight leg class : ℕ) → waiting bookings flight leg class ≤ wait_of (ladder_at grid flight leg) class)
  where
    -- one more is held: the seats of those ahead and of it are within the limits
    pub fits_behind : (past : List Booking) (b : Booking) → b.status ≡ Held → sells grid b.place b.class ≡ true
        → ((f l k : ℕ) → held (past ++ b ∷ []) f l k ≤ held bookings f l k)
        → b.seats ≤ room grid (held past) b.place b.class
    fits_behind past b is there less =
        room_enough grid (held past) b.place b.class b.seats there
        (λ leg from to there_on. room_there (ladder_at grid b.place.flight leg) (held (past ++ b ∷ []) b.place.flight leg) (held past b.place.flight leg)
        b.class b.seats (more_held past b leg is from to) there_on
        (within_less (ladder_at grid b.place.flight leg) (held (past ++ b ∷ []) b.place.flight leg) (held bookings b.place.flight leg)
        (less b.place.flight leg) (within b.place.flight leg)))

    -- one more may wait
    pub waits_behind : (past done : List Booking) (b : Booking) → b.status ≡ Waiting → sells grid b.place b.class ≡ true
        → ((f l k : ℕ) → waiting done f l k ≤ waiting past f l k)
        → ((f l k : ℕ) → waiting (past ++ b ∷ []) f l k ≤ waiting bookings f l k)
        → may_wait grid (waiting done) b.place b.class b.seats ≡ true
    waits_behind past done b is there fewer less =
        all_may_wait grid (waiting done) b.place b.class b.seats there
        (λ leg from to. omega (arith, more_waits past b leg is from to, fewer b.place.flight leg b.class, less b.place.flight leg b.class, waits b.place.flight leg b.class))

    -- those that hold, one after the other
    pub hold_all : (past bs : List Booking) (n : ℕ) → n ≡ line + length past → AllByRecursion (λ b. b.status ≡ Held) bs
        → AllByRecursion (λ b. sells grid b.place b.class ≡ true) bs → IsApart (past ++ bs)
        → ((f l k : ℕ) → held (past ++ bs) f l k ≤ held bookings f l k)
        → asked_from (state_of grid (anew line past)) n bs ≡ state_of grid (anew line (past ++ bs))
    hold_all past [] n at holds sold_there apart less = ap (λ (l : List Booking). state_of grid (anew line l)) (sym (append-nil past))
    hold_all past (b ∷ bs) n at holds sold_there apart less =
        ap (λ (s : State). asked_from s (n + 1) bs) (step ∙ ap (state_of grid) (sym (anew_push line past n b at)))
        ∙ hold_all (past ++ b ∷ []) bs (n + 1) (omega (arith, at, length-append past (b ∷ []))) holds.1 sold_there.1
        (subst IsApart (sym (append_assoc past (b ∷ []) bs)) apart)
        (λ f l k. let same = ap (λ (x : List Booking). held x f l k) (append_assoc past (b ∷ []) bs) in omega (arith, same, less f l k))
        ∙ ap (λ (l : List Booking). state_of grid (anew line l)) (append_assoc past (b ∷ []) bs)
      where
        differs : AllByRecursion (λ x. Differs x b) (anew line past)
        differs = carried_differs b line past (anew line past) (carried_anew line past) (ahead_differs past b bs apart)

        few : (f l k : ℕ) → held (past ++ b ∷ []) f l k ≤ held bookings f l k
        few f l k =
            omega (arith, less f l k, sum_by-append (seats_on f l k) past (b ∷ bs), sum_by-cons (seats_on f l k) b bs, sum_by_push (seats_on f l k) past b)

        room_now : b.seats ≤ room grid (held (anew line past)) b.place b.class
        room_now =
            room_enough grid (held (anew line past)) b.place b.class b.seats sold_there.0
            (λ leg from to there_on. room_there (ladder_at grid b.place.flight leg) (held (past ++ b ∷ []) b.place.flight leg) (held (anew line past) b.place.flight leg)
            b.class b.seats (same_more leg (more_held past b leg holds.0 from to)) there_on
            (within_less (ladder_at grid b.place.flight leg) (held (past ++ b ∷ []) b.place.flight leg) (held bookings b.place.flight leg)
            (few b.place.flight leg) (within b.place.flight leg)))
          where
            same_more : (leg : ℕ) → IsMore (held (past ++ b ∷ []) b.place.flight leg) (held past b.place.flight leg) b.class b.seats
                → IsMore (held (past ++ b ∷ []) b.place.flight leg) (held (anew line past) b.place.flight leg) b.class b.seats
            same_more leg m = record {
              here = m.here ∙ ap (λ (x : ℕ). x + b.seats) (sym (held_anew line past b.place.flight leg b.class));
              others = λ k other. m.others k other ∙ sym (held_anew line past b.place.flight leg k);
            }

        step : (answer (state_of grid (anew line past)) n (Seats (command_for b))).state
            ≡ state_of grid (anew line past ++ record b { number = n } ∷ [])
        step = sold grid (anew line past) n b holds.0 differs room_now

    -- those that wait, one after the other, behind carried ones
    pub wait_all : (past done bs : List Booking) (n : ℕ) → n ≡ line + length past → AreCarried line past done
        → AllByRecursion (λ b. b.status ≡ Waiting) bs → AllByRecursion (λ b. sells grid b.place b.class ≡ true) bs
        → IsApart (past ++ bs) → ((f l k : ℕ) → waiting (past ++ bs) f l k ≤ waiting bookings f l k)
        → AreCarried line (past ++ bs) (asked_from (state_of grid done) n bs).bookings
    wait_all past done [] n at carried all sold_there apart less =
        let P : List Booking → Type 0 = λ l. AreCarried line l done in subst P (sym (append-nil past)) carried
    wait_all past done (b ∷ bs) n at carried all sold_there apart less =
        let Goal : List Booking → State → Type 0 = λ l s. AreCarried line l (asked_from s (n + 1) bs).bookings in
        let rest = wait_all (past ++ b ∷ []) (pass grid [] [] (done ++ record b { number = n } ∷ [])).bookings bs (n + 1)
        (omega (arith, at, length-append past (b ∷ [])))
        (carried_passed grid line (past ++ b ∷ []) (done ++ record b { number = n } ∷ []) (carried_push line past done n b (record b { number = n }) at carried (carried_new n b)))
        all.1 sold_there.1 (subst IsApart (sym (append_assoc past (b ∷ []) bs)) apart)
        (λ f l k. let same = ap (λ (x : List Booking). waiting x f l k) (append_assoc past (b ∷ []) bs) in omega (arith, same, less f l k)) in
        subst (λ (l : List Booking). Goal l (answer (state_of grid done) n (Seats (command_for b))).state) (append_assoc past (b ∷ []) bs)
        (subst (λ (s : State). Goal ((past ++ b ∷ []) ++ bs) s) (sym step) rest)
      where
        differs : AllByRecursion (λ x. Differs x b) done
        differs = carried_differs b line past done carried (ahead_differs past b bs apart)

        few : (f l k : ℕ) → waiting (past ++ b ∷ []) f l k ≤ waiting bookings f l k
        few f l k =
            omega (arith, less f l k, sum_by-append (waits_on f l k) past (b ∷ bs), sum_by-cons (waits_on f l k) b bs, sum_by_push (waits_on f l k) past b)

        step : (answer (state_of grid done) n (Seats (command_for b))).state
            ≡ state_of grid (pass grid [] [] (done ++ record b { number = n } ∷ [])).bookings
        step = listed grid done n b all.0 differs (waits_behind past done b all.0 sold_there.0 (carried_waits line past done carried) few)

-- ---- all

holds_only : (s : Status) → is_held s ≡ true → s ≡ Held
holds_only Held e = refl
holds_only Waiting e = absurd cc

waits_only : (s : Status) → is_waiting s ≡ true → s ≡ Waiting
waits_only Held e = absurd cc
waits_only Waiting e = refl

pub all_held : (bs : List Booking) → AllByRecursion (λ b. b.status ≡ Held) (those_held bs)
all_held bs = each_passes (λ (b : Booking). is_held b.status) (λ b. b.status ≡ Held) (λ b e. holds_only b.status e) bs

pub all_waiting : (bs : List Booking) → AllByRecursion (λ b. b.status ≡ Waiting) (those_waiting bs)
all_waiting bs = each_passes (λ (b : Booking). is_waiting b.status) (λ b. b.status ≡ Waiting) (λ b e. waits_only b.status e) bs

pub apart_ahead : (xs ys : List Booking) → IsApart (xs ++ ys) → IsApart xs
apart_ahead [] ys h = tt
apart_ahead (x ∷ xs) ys h = (all_ahead (Differs x) xs ys h.0, apart_ahead xs ys h.1)

-- those that hold are held again
pub held_first : (grid : Ladders) (bookings : List Booking) (line : ℕ) → HasRoomFor grid bookings
    → asked_from (state_of grid []) line (those_held bookings) ≡ state_of grid (anew line (those_held bookings))
held_first grid bookings line has =
    hold_all grid line bookings has.within has.listed [] (those_held bookings) line (omega arith) (all_held bookings)
    (all_ahead (λ b. sells grid b.place b.class ≡ true) (those_held bookings) (those_waiting bookings) (all_turn (λ b. sells grid b.place b.class ≡ true) bookings has.placed))
    (apart_ahead (those_held bookings) (those_waiting bookings) (apart_turn bookings has.apart))
    (λ f l k. omega (arith, sum_by-append (seats_on f l k) (those_held bookings) (those_waiting bookings), held_turn bookings f l k))

pub nobody_loses : NobodyLoses
nobody_loses grid bookings line has =
    let n : ℕ = line + length (those_held bookings) in
    let first = held_first grid bookings line has in
    let both = asked_both (those_held bookings) (those_waiting bookings) (state_of grid []) line n refl in
    let state : asked_from (state_of grid []) line (in_turn bookings) ≡ asked_from (state_of grid (anew line (those_held bookings))) n (those_waiting bookings) =
    both ∙ ap (λ (s : State). asked_from s n (those_waiting bookings)) first in
    let rest = wait_all grid line bookings has.within has.listed (those_held bookings) (anew line (those_held bookings)) (those_waiting bookings) n refl
    (carried_anew line (those_held bookings)) (all_waiting bookings)
    (all_behind (λ b. sells grid b.place b.class ≡ true) (those_held bookings) (those_waiting bookings) (all_turn (λ b. sells grid b.place b.class ≡ true) bookings has.placed))
    (apart_turn bookings has.apart)
    (λ f l k. omega (arith, waiting_turn bookings f l k)) in
    subst (λ (s : State). AreCarried line (in_turn bookings) s.bookings) (sym state) rest
