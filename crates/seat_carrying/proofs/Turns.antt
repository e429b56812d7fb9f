-- What is asked for in turn is what there is: the same seats, apart as they were.
use Rattle.std.proofs.Common.{◌≡◌, ◌==◌, ℕ, not, Bool, true, false, nat_eq, List, [], ◌∷◌, ◌++◌, arith, refl, ap, sym, ◌∙◌}
use Rattle.std.proofs.lemmas.Bool.Decides.{nat_tests}
use Rattle.std.proofs.lemmas.List.Filters.{sum_by-filter_both}
use Rattle.std.proofs.lemmas.List.Sums.{sum_by-append}
use Rattle.std.specs.Cmp.Lexicographic.{pointwise}
use Rattle.std.specs.List.{AllByRecursion, sum_by}
use Rattle.airline_base.specs.declared.place.Place.{Place}
use Rattle.seat_rules.specs.declared.booking.Booking.{Booking}
use Rattle.seat_rules.specs.declared.booking.Status.{Status}
use Rattle.seat_rules.specs.declared.booking.Status.TheVariants.{Held, Waiting}
use Rattle.seat_rules.specs.Bookings.{held, is_for, is_held, is_waiting, seats_on, waiting}
use Rattle.seat_rules.proofs.Filters.{all_pass}
use Rattle.seat_rules.specs.Bookings.{Differs, IsApart, same_place, waits_on}
use Rattle.seat_carrying.specs.Carrying.{in_turn, those_held, those_waiting}

waits_or_holds : (s : Status) → is_waiting s ≡ not (is_held s)
waits_or_holds Held = refl
waits_or_holds Waiting = refl

sum_turn : (f : Booking → ℕ) (bs : List Booking) → sum_by f (in_turn bs) ≡ sum_by f bs
sum_turn f bs =
    sum_by-append f (those_held bs) (those_waiting bs)
    ∙ sum_by-filter_both (λ (b : Booking). is_held b.status) (λ (b : Booking). is_waiting b.status) (λ b. waits_or_holds b.status) f bs

pub held_turn : (bs : List Booking) (f l k : ℕ) → held (in_turn bs) f l k ≡ held bs f l k
held_turn bs f l k = sum_turn (seats_on f l k) bs

pub waiting_turn : (bs : List Booking) (f l k : ℕ) → waiting (in_turn bs) f l k ≡ waiting bs f l k
waiting_turn bs f l k = sum_turn (waits_on f l k) bs

pub all_append : (P : Booking → Type 0) (xs ys : List Booking) → AllByRecursion P xs → AllByRecursion P ys
    → AllByRecursion P (xs ++ ys)
all_append P [] ys a b = b
all_append P (x ∷ xs) ys a b = (a.0, all_append P xs ys a.1 b)

-- ---- apart

eq_turn : (a b : ℕ) → (a == b) ≡ (b == a)
eq_turn a b = cases (a == b) (b == a) refl refl where
  cases : (t u : Bool) → (a == b) ≡ t → (b == a) ≡ u → (a == b) ≡ (b == a)
  cases true true e g = e ∙ sym g
  cases false false e g = e ∙ sym g
  cases true false e g = let same : a ≡ b = grind (arith, nat_tests) in let other : (b == a) ≡ true = grind (arith, nat_tests) in absurd cc
  cases false true e g = let same : b ≡ a = grind (arith, nat_tests) in let other : (a == b) ≡ true = grind (arith, nat_tests) in absurd cc

nat_turn : (a b : ℕ) → nat_eq a b ≡ nat_eq b a
nat_turn a b = eq_turn a b

letters_turn : (xs ys : List ℕ) → pointwise nat_eq xs ys ≡ pointwise nat_eq ys xs
letters_turn [] [] = refl
letters_turn [] (y ∷ ys) = refl
letters_turn (x ∷ xs) [] = refl
letters_turn (x ∷ xs) (y ∷ ys) = rw (nat_turn x y, letters_turn xs ys) refl

place_turn : (p q : Place) → same_place p q ≡ same_place q p
place_turn p q = rw (eq_turn p.flight q.flight, eq_turn p.from q.from, eq_turn p.to q.to) refl

pub differs_back : (a b : Booking) → Differs a b → Differs b a
differs_back a b e =
    let same : is_for a.locator a.place a.class b ≡ is_for b.locator b.place b.class a =
    rw (letters_turn b.locator a.locator, place_turn b.place a.place, eq_turn b.class a.class) refl in
    same ∙ e

apart_insert : (xs : List Booking) (b : Booking) (ys : List Booking) → AllByRecursion (Differs b) (xs ++ ys) → IsApart (xs ++ ys)
    → IsApart (xs ++ b ∷ ys)
apart_insert [] b ys d h = (d, h)
apart_insert (x ∷ xs) b ys d h = (put xs h.0, apart_insert xs b ys d.1 h.1) where
  put : (zs : List Booking) → AllByRecursion (Differs x) (zs ++ ys) → AllByRecursion (Differs x) (zs ++ b ∷ ys)
  put [] a = (differs_back b x d.0, a)
  put (z ∷ zs) a = (a.0, put zs a.1)

pub apart_turn : (bs : List Booking) → IsApart bs → IsApart (in_turn bs)
apart_turn [] h = tt
apart_turn (b ∷ bs) h = cases b.status refl (apart_turn bs h.1) differs where
  differs : AllByRecursion (Differs b) (in_turn bs)
  differs = all_append (Differs b) (those_held bs) (those_waiting bs) (all_pass (λ (x : Booking). is_held x.status) (Differs b) bs h.0)
      (all_pass (λ (x : Booking). is_waiting x.status) (Differs b) bs h.0)

  cases : (s : Status) → b.status ≡ s → IsApart (in_turn bs) → AllByRecursion (Differs b) (in_turn bs) → IsApart (in_turn (b ∷ bs))
  cases Held e rest d =
      let here : is_held b.status ≡ true = ap is_held e in
      let there : is_waiting b.status ≡ false = ap is_waiting e in
      rw (here, there) (d, rest)
  cases Waiting e rest d =
      let here : is_held b.status ≡ false = ap is_held e in
      let there : is_waiting b.status ≡ true = ap is_waiting e in
      rw (here, there) (apart_insert (those_held bs) b (those_waiting bs) d rest)

pub all_turn : (P : Booking → Type 0) (bs : List Booking) → AllByRecursion P bs → AllByRecursion P (in_turn bs)
all_turn P bs a =
    all_append P (those_held bs) (those_waiting bs) (all_pass (λ (x : Booking). is_held x.status) P bs a)
    (all_pass (λ (x : Booking). is_waiting x.status) P bs a)
