-- No two live bookings have the same locator, place and class.
use Rattle.std.proofs.Common.{◌≡◌, ◌==◌, ℕ, zero, suc, ◌-◌, ◌<◌, Bool, true, false, nat_le, nat_eq, List, [], ◌∷◌, ◌++◌, length, Some, None, find, cond, get_or, arith, refl, ap}
use Rattle.seat_rules.proofs.Common.{AllByRecursion, pointwise, Place, Ladders, Booking, Held, Waiting, Command, Work, Entry, is_for, replay, Status, State, state_of, answer, changed_by, sales_by, pass, reduced, confirmed, booking_of, booking_for}
use Rattle.std.specs.List.{AllPairs}
use Rattle.std.proofs.lemmas.Bool.Decides.{nat_tests}
use Rattle.std.proofs.lemmas.List.Elements.{All-from_recursion}
use Rattle.seat_rules.specs.Bookings.{IsSameBooking, Differs, IsApart}
use Rattle.seat_rules.specs.Laws.{LiveBookingsDiffer}
use Rattle.seat_rules.proofs.Step.Outcomes.{each_outcome}
use Rattle.seat_rules.proofs.Step.Limits.{each_pass}
use Rattle.seat_rules.proofs.Passes.Quiet.{all_push}
use Rattle.seat_rules.proofs.History.Lines.{each_replay}

pub find_none_all : (p : Booking → Bool) (xs : List Booking) → find p xs ≡ None → AllByRecursion (λ x. p x ≡ false) xs
find_none_all p [] e = tt
find_none_all p (x ∷ xs) e = cases (p x) refl e (find_none_all p xs) where
  cases : (t : Bool) → p x ≡ t → cond t (Some x) (find p xs) ≡ None
      → (find p xs ≡ None → AllByRecursion (λ x. p x ≡ false) xs) → (p x ≡ false) × AllByRecursion (λ x. p x ≡ false) xs
  cases true e none rest = absurd cc
  cases false e none rest = (e, rest none)

-- what holds of each booking holds after it loses seats
pub all_reduced : (P : Booking → Type 0) (test : Booking → Bool) (n : ℕ) (xs : List Booking)
    → ((b : Booking) → test b ≡ true → P b → P (record b { seats = b.seats - n })) → AllByRecursion P xs
    → AllByRecursion P (reduced test n xs)
all_reduced P test n [] f a = tt
all_reduced P test n (b ∷ bs) f a = cases (test b) (nat_le b.seats n) refl refl (all_reduced P test n bs f a.1) where
  cases : (t u : Bool) → test b ≡ t → nat_le b.seats n ≡ u → AllByRecursion P (reduced test n bs)
      → AllByRecursion P (reduced test n (b ∷ bs))
  cases true true e g rest = rw (e, g) a.1
  cases true false e g rest = rw (e, g) (f b e a.0, a.1)
  cases false u e g rest = rw e (a.0, rest)

-- and after one is confirmed
pub all_confirmed : (P : Booking → Type 0) (xs : List Booking) (b : Booking) (bs : List Booking)
    → (P b → P (confirmed b)) → AllByRecursion P (xs ++ b ∷ bs) → AllByRecursion P (xs ++ confirmed b ∷ bs)
all_confirmed P [] b bs f a = (f a.0, a.1)
all_confirmed P (x ∷ xs) b bs f a = (a.0, all_confirmed P xs b bs f a.1)

apart_more : (xs : List Booking) (b : Booking) → IsApart xs
    → AllByRecursion (λ x. is_for b.locator b.place b.class x ≡ false) xs → IsApart (xs ++ b ∷ [])
apart_more [] b h a = (tt, tt)
apart_more (x ∷ xs) b h a = (all_push (Differs x) xs b h.0 a.0, apart_more xs b h.1 a.1)

pub apart_reduced : (test : Booking → Bool) (n : ℕ) (xs : List Booking) → IsApart xs → IsApart (reduced test n xs)
apart_reduced test n [] h = tt
apart_reduced test n (b ∷ bs) h = cases (test b) (nat_le b.seats n) refl refl (apart_reduced test n bs h.1) where
  cases : (t u : Bool) → test b ≡ t → nat_le b.seats n ≡ u → IsApart (reduced test n bs)
      → IsApart (reduced test n (b ∷ bs))
  cases true true e g rest = rw (e, g) h.1
  cases true false e g rest = rw (e, g) (h.0, h.1)
  cases false u e g rest = rw e (all_reduced (Differs b) test n bs (λ x e d. d) h.0, rest)

apart_confirmed : (xs : List Booking) (b : Booking) (bs : List Booking) → IsApart (xs ++ b ∷ bs)
    → IsApart (xs ++ confirmed b ∷ bs)
apart_confirmed [] b bs h = h
apart_confirmed (x ∷ xs) b bs h = (all_confirmed (Differs x) xs b bs (λ d. d) h.0, apart_confirmed xs b bs h.1)

pub apart_answer : (s : State) (number : ℕ) (w : Work) → IsApart s.bookings → IsApart (answer s number w).state.bookings
apart_answer s number w h =
    each_outcome (λ v o. IsApart o.state.bookings) s number
    (λ v r. h)
    (λ c place at none fits. more c place Held none)
    (λ c place at none over why. more c place Waiting none)
    (λ c place at none. pass_all s.grid (s.bookings ++ booking_of number c place Waiting ∷ []) (more c place Waiting none))
    (λ c place b at found le. pass_all s.grid (reduced (is_for c.locator place c.class) c.seats s.bookings) (apart_reduced (is_for c.locator place c.class) c.seats s.bookings h))
    (λ c may. pass_all (changed_by s.grid c) s.bookings h)
    (λ c may. pass_all (sales_by s.grid c) s.bookings h)
    w
  where
    more : (c : Command) (place : Place) (status : Status) → booking_for s c place ≡ None
        → IsApart (s.bookings ++ booking_of number c place status ∷ [])
    more c place status none = apart_more s.bookings (booking_of number c place status) h (find_none_all (is_for c.locator place c.class) s.bookings none)

    pass_all : (grid : Ladders) (xs : List Booking) → IsApart xs → IsApart (pass grid [] [] xs).bookings
    pass_all grid xs a = each_pass IsApart grid (λ done b bs d may. apart_confirmed done b bs d) [] xs [] a

pub letters_same : (xs : List ℕ) → pointwise nat_eq xs xs ≡ true
letters_same [] = refl
letters_same (x ∷ xs) = let e : nat_eq x x ≡ true = grind (arith, nat_tests) in rw (e, letters_same xs) refl

is_for_same : (a : Booking) (l : List ℕ) (p : Place) (k : ℕ) → a.locator ≡ l → a.place ≡ p → a.class ≡ k
    → is_for l p k a ≡ true
is_for_same a l p k e f g =
    let letters : pointwise nat_eq a.locator l ≡ true = rw e (letters_same l) in
    let flight : (a.place.flight == p.flight) ≡ true = let h : a.place.flight ≡ p.flight = ap (λ (q : Place). q.flight) f in grind (arith, nat_tests) in
    let from : (a.place.from == p.from) ≡ true = let h : a.place.from ≡ p.from = ap (λ (q : Place). q.from) f in grind (arith, nat_tests) in
    let to : (a.place.to == p.to) ≡ true = let h : a.place.to ≡ p.to = ap (λ (q : Place). q.to) f in grind (arith, nat_tests) in
    let class : (a.class == k) ≡ true = grind (arith, nat_tests) in
    rw (letters, flight, from, to, class) refl

pub true_false : (t : Bool) → t ≡ true → t ≡ false → ⊥
true_false t e f = absurd cc

apart_pairs : (xs : List Booking) → IsApart xs → AllPairs (λ a b. IsSameBooking a b → ⊥) xs
apart_pairs [] h i j d lt le same = omega arith
apart_pairs (x ∷ xs) h i zero d lt le same = omega arith
apart_pairs (x ∷ xs) h zero (suc j) d lt le same =
    let inside : j < length xs = omega arith in
    let y : Booking = get_or xs j d in
    let differs : Differs x y = All-from_recursion (Differs x) xs h.0 j d inside in
    true_false (is_for y.locator y.place y.class x) (is_for_same x y.locator y.place y.class same.0 same.1 same.2) differs
apart_pairs (x ∷ xs) h (suc i) (suc j) d lt le same = apart_pairs xs h.1 i j d (omega arith) (omega arith) same

pub replay_apart : (grid : Ladders) (journal : List Entry) → IsApart (replay grid journal).bookings
replay_apart grid journal = each_replay (λ s. IsApart s.bookings) apart_answer (state_of grid []) tt journal

pub live_bookings_differ : LiveBookingsDiffer
live_bookings_differ grid journal = apart_pairs (replay grid journal).bookings (replay_apart grid journal)
