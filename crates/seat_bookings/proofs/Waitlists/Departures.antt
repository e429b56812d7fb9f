-- Bookings that leave a waiting list, or lose seats, and their demands.
use Rattle.std.proofs.Common.{◌≡◌, ◌==◌, ◌&&◌, ◌||◌, ℕ, suc, zero, ◌+◌, ◌-◌, ◌<◌, ◌≤◌, Bool, true, false, min, List, [], ◌∷◌, length, get_or, drop, set, remove, position, nat_eq, nat_lt, ◌^◌, Option, Some, None, cond, if◌then◌else◌, arith, refl, sym, subst, ap, ◌∙◌}
use Rattle.seat_bookings.proofs.Common.{AllByRecursion, Place, Booking, Demand, is_waiting, is_for, reduced, is_at, is_demand_of, is_booking_of, is_apart, least_with, smallest_of, seats_for, demand_smallest, demand_seats, IsIndexed}
use Rattle.std.specs.List.{list_any, prefix_len}
use Rattle.std.proofs.lemmas.Bool.Decides.{nat_tests}
use Rattle.std.proofs.lemmas.List.Quantifiers.{position-Some}
use Rattle.std.specs.Cmp.Lexicographic.{pointwise}
use Rattle.seat_rules.specs.Applying.{IsOrdered}
use Rattle.seat_rules.specs.Bookings.{same_place}
use Rattle.seat_bookings.specs.Demands.{begun, demand_first, demand_from, demand_near, demand_nearer, near_from, near_left, nearer, next_first, next_of, next_party, settled, has_spare, is_party_of, IsReached}
use Rattle.seat_rules.proofs.History.Faults.{nat_same, place_same}
use Rattle.seat_rules.proofs.Passes.Quiet.{all_map}
use Rattle.seat_rules.proofs.Step.Effect.{ordered_reduced}
use Rattle.seat_rules.proofs.Step.Reduced.{reduced_less}
use Rattle.seat_bookings.specs.Queues.{without}
use Rattle.seat_bookings.proofs.Waitlists.Queue.{without_found}
use Rattle.seat_bookings.proofs.Waitlists.Index.{at_itself, at_turned, at_same, at_other, least_lower, least_twice, least_swap, same_least, least_each, some_same, all_both, reached_as, smallest_set, seats_set, smallest_get, seats_get, seats_few, all_remove, all_set, all_get, none_left, neither, no_seats, no_smallest, apart_rest, gone_at}
use Rattle.airline_base.proofs.Tests.{both_true}

-- ---- a booking has fewer seats, or is gone
settled_smallest : (place : Place) (class : ℕ) (o next close : Option ℕ) (n : ℕ) (q : Place) (c : ℕ) (ps : List Demand)
    → is_at place class q c ≡ false
    → demand_smallest q c (settled ps place class o next close n) ≡ demand_smallest q c ps
settled_smallest place class o next close n q c [] other = refl
settled_smallest place class o next close n q c (p ∷ ps) other = cases (is_demand_of place class p) (is_demand_of q c p) o refl refl (settled_smallest place class o next close n q c ps other) where
  cases : (t u : Bool) (o : Option ℕ) → is_demand_of place class p ≡ t → is_demand_of q c p ≡ u
      → demand_smallest q c (settled ps place class o next close n) ≡ demand_smallest q c ps
      → demand_smallest q c (settled (p ∷ ps) place class o next close n) ≡ demand_smallest q c (p ∷ ps)
  cases true u None e f rest = let away = at_other place q p.place class c p.class other e in rw e (rw away refl)
  cases true u (Some m) e f rest = let away = at_other place q p.place class c p.class other e in rw e (rw away refl)
  cases false true o e f rest = rw (e, f) refl
  cases false false o e f rest = rw (e, f) rest

settled_seats : (place : Place) (class : ℕ) (o next close : Option ℕ) (n : ℕ) (q : Place) (c : ℕ) (ps : List Demand)
    → is_at place class q c ≡ false
    → demand_seats q c (settled ps place class o next close n) ≡ demand_seats q c ps
settled_seats place class o next close n q c [] other = refl
settled_seats place class o next close n q c (p ∷ ps) other = cases (is_demand_of place class p) (is_demand_of q c p) o refl refl (settled_seats place class o next close n q c ps other) where
  cases : (t u : Bool) (o : Option ℕ) → is_demand_of place class p ≡ t → is_demand_of q c p ≡ u
      → demand_seats q c (settled ps place class o next close n) ≡ demand_seats q c ps
      → demand_seats q c (settled (p ∷ ps) place class o next close n) ≡ demand_seats q c (p ∷ ps)
  cases true u None e f rest = let away = at_other place q p.place class c p.class other e in rw e (rw away refl)
  cases true u (Some m) e f rest = let away = at_other place q p.place class c p.class other e in rw e (rw away refl)
  cases false true o e f rest = rw (e, f) refl
  cases false false o e f rest = rw (e, f) rest

settled_smallest_here : (place : Place) (class m : ℕ) (o next close : Option ℕ) (n : ℕ) (ps : List Demand) → is_apart ps ≡ true
    → demand_smallest place class ps ≡ Some m
    → demand_smallest place class (settled ps place class o next close n) ≡ o
settled_smallest_here place class m o next close n [] apart is = absurd cc
settled_smallest_here place class m o next close n (p ∷ ps) apart is =
    cases (is_demand_of place class p) o refl is (settled_smallest_here place class m o next close n ps (apart_rest p ps apart).1)
  where
    cases : (t : Bool) (o : Option ℕ) → is_demand_of place class p ≡ t
        → (if is_demand_of place class p then Some p.smallest else demand_smallest place class ps) ≡ Some m
        → (demand_smallest place class ps ≡ Some m → demand_smallest place class (settled ps place class o next close n) ≡ o)
        → demand_smallest place class (settled (p ∷ ps) place class o next close n) ≡ o
    cases true None e f rest = rw e (no_smallest place class ps (gone_at place class p ps e (apart_rest p ps apart).0))
    cases true (Some k) e f rest = rw e (rw e refl)
    cases false o e f rest = rw e (rw e (rest (rw e at f)))

settled_seats_here : (place : Place) (class : ℕ) (o next close : Option ℕ) (n : ℕ) (ps : List Demand) → is_apart ps ≡ true
    → (o ≡ None → demand_seats place class ps ≤ n)
    → demand_seats place class (settled ps place class o next close n) ≡ demand_seats place class ps - n
settled_seats_here place class o next close n [] apart none = omega arith
settled_seats_here place class o next close n (p ∷ ps) apart none =
    cases (is_demand_of place class p) o refl none (settled_seats_here place class o next close n ps (apart_rest p ps apart).1)
  where
    cases : (t : Bool) (o : Option ℕ) → is_demand_of place class p ≡ t
        → (o ≡ None → (if is_demand_of place class p then p.seats else demand_seats place class ps) ≤ n)
        → ((o ≡ None → demand_seats place class ps ≤ n) → demand_seats place class (settled ps place class o next close n)
        ≡ demand_seats place class ps - n)
        → demand_seats place class (settled (p ∷ ps) place class o next close n) ≡ demand_seats place class (p ∷ ps) - n
    cases true None e f rest =
        let le : p.seats ≤ n = rw e at (f refl) in
        rw e (no_seats place class ps (gone_at place class p ps e (apart_rest p ps apart).0) ∙ omega (arith, le))
    cases true (Some k) e f rest = rw e (rw e refl)
    cases false o e f rest = rw e (rw e (rest (λ no. rw e at (f no))))

settled_other : (ps : List Demand) (place : Place) (class : ℕ) (o next close : Option ℕ) (n : ℕ) (q : Place) (c : ℕ)
    → list_any (is_demand_of q c) ps ≡ false → list_any (is_demand_of q c) (settled ps place class o next close n) ≡ false
settled_other [] place class o next close n q c e = refl
settled_other (p ∷ ps) place class o next close n q c e =
    let h = neither (is_demand_of q c p) (list_any (is_demand_of q c) ps) e in
    cases (is_demand_of place class p) o refl h.0 h.1 (settled_other ps place class o next close n q c h.1)
  where
    cases : (t : Bool) (o : Option ℕ) → is_demand_of place class p ≡ t → is_demand_of q c p ≡ false
        → list_any (is_demand_of q c) ps ≡ false
        → list_any (is_demand_of q c) (settled ps place class o next close n) ≡ false
        → list_any (is_demand_of q c) (settled (p ∷ ps) place class o next close n) ≡ false
    cases true None e f g rest = rw e g
    cases true (Some m) e f g rest = rw e (rw (f, g) refl)
    cases false o e f g rest = rw e (rw (f, rest) refl)

settled_apart : (ps : List Demand) (place : Place) (class : ℕ) (o next close : Option ℕ) (n : ℕ) → is_apart ps ≡ true
    → is_apart (settled ps place class o next close n) ≡ true
settled_apart [] place class o next close n e = refl
settled_apart (p ∷ ps) place class o next close n e = cases (is_demand_of place class p) o refl (settled_apart ps place class o next close n (apart_rest p ps e).1) where
  cases : (t : Bool) (o : Option ℕ) → is_demand_of place class p ≡ t → is_apart (settled ps place class o next close n) ≡ true
      → is_apart (settled (p ∷ ps) place class o next close n) ≡ true
  cases true None f rest = rw f (apart_rest p ps e).1
  cases true (Some m) f rest = rw f e
  cases false o f rest =
      let none = settled_other ps place class o next close n p.place p.class (apart_rest p ps e).0 in
      rw f (rw none rest)

settled_begins : (place : Place) (class : ℕ) (o next close : Option ℕ) (n : ℕ) (q : Place) (c : ℕ) (ps : List Demand)
    → is_at place class q c ≡ false
    → demand_first q c (settled ps place class o next close n) ≡ demand_first q c ps
settled_begins place class o next close n q c [] other = refl
settled_begins place class o next close n q c (p ∷ ps) other = cases (is_demand_of place class p) (is_demand_of q c p) o refl refl (settled_begins place class o next close n q c ps other) where
  cases : (t u : Bool) (o : Option ℕ) → is_demand_of place class p ≡ t → is_demand_of q c p ≡ u
      → demand_first q c (settled ps place class o next close n) ≡ demand_first q c ps
      → demand_first q c (settled (p ∷ ps) place class o next close n) ≡ demand_first q c (p ∷ ps)
  cases true u None e f rest = let away = at_other place q p.place class c p.class other e in rw e (rw away refl)
  cases true u (Some m) e f rest = let away = at_other place q p.place class c p.class other e in rw e (rw away refl)
  cases false true o e f rest = rw (e, f) refl
  cases false false o e f rest = rw (e, f) rest

-- where the demand begins that has bookings left
abbrev moved : Option ℕ → Option ℕ → Option ℕ
moved None next = None
moved (Some m) next = Some (begun m next)

settled_begins_here : (place : Place) (class k : ℕ) (next close : Option ℕ) (n : ℕ) (ps : List Demand)
    → demand_first place class (settled ps place class (Some k) next close n) ≡ moved (demand_first place class ps) next
settled_begins_here place class k next close n [] = refl
settled_begins_here place class k next close n (p ∷ ps) = cases (is_demand_of place class p) refl (settled_begins_here place class k next close n ps) where
  cases : (t : Bool) → is_demand_of place class p ≡ t
      → demand_first place class (settled ps place class (Some k) next close n) ≡ moved (demand_first place class ps) next
      → demand_first place class (settled (p ∷ ps) place class (Some k) next close n)
      ≡ moved (demand_first place class (p ∷ ps)) next
  cases true e rest = rw e (rw e refl)
  cases false e rest = rw e (rw e rest)

settled_nears : (place : Place) (class : ℕ) (o next close : Option ℕ) (n : ℕ) (q : Place) (c : ℕ) (ps : List Demand)
    → is_at place class q c ≡ false
    → demand_near q c (settled ps place class o next close n) ≡ demand_near q c ps
settled_nears place class o next close n q c [] other = refl
settled_nears place class o next close n q c (p ∷ ps) other = cases (is_demand_of place class p) (is_demand_of q c p) o refl refl (settled_nears place class o next close n q c ps other) where
  cases : (t u : Bool) (o : Option ℕ) → is_demand_of place class p ≡ t → is_demand_of q c p ≡ u
      → demand_near q c (settled ps place class o next close n) ≡ demand_near q c ps
      → demand_near q c (settled (p ∷ ps) place class o next close n) ≡ demand_near q c (p ∷ ps)
  cases true u None e f rest = let away = at_other place q p.place class c p.class other e in rw e (rw away refl)
  cases true u (Some m) e f rest = let away = at_other place q p.place class c p.class other e in rw e (rw away refl)
  cases false true o e f rest = rw (e, f) refl
  cases false false o e f rest = rw (e, f) rest

settled_nears_here : (place : Place) (class k : ℕ) (next close : Option ℕ) (n : ℕ) (ps : List Demand)
    → demand_near place class (settled ps place class (Some k) next close n) ≡ moved (demand_near place class ps) close
settled_nears_here place class k next close n [] = refl
settled_nears_here place class k next close n (p ∷ ps) = cases (is_demand_of place class p) refl (settled_nears_here place class k next close n ps) where
  cases : (t : Bool) → is_demand_of place class p ≡ t
      → demand_near place class (settled ps place class (Some k) next close n) ≡ moved (demand_near place class ps) close
      → demand_near place class (settled (p ∷ ps) place class (Some k) next close n)
      ≡ moved (demand_near place class (p ∷ ps)) close
  cases true e rest = rw e (rw e refl)
  cases false e rest = rw e (rw e rest)

-- what holds of each by three things that hold of each
all_three : (P Q R S : Booking → Type 0) (xs : List Booking) → ((b : Booking) → P b → Q b → R b → S b)
    → AllByRecursion P xs → AllByRecursion Q xs → AllByRecursion R xs → AllByRecursion S xs
all_three P Q R S [] f a b c = tt
all_three P Q R S (x ∷ xs) f a b c = (f x a.0 b.0 c.0, all_three P Q R S xs f a.1 b.1 c.1)

-- the bookings differ at one place and class, of which n seats are gone
changed : (xs ys : List Booking) (ps : List Demand) (place : Place) (class m : ℕ) (next close : Option ℕ) (n : ℕ) → IsIndexed xs ps → IsOrdered ys
    → AllByRecursion (λ x. is_waiting x.status ≡ true) ys → AllByRecursion (λ x. x.seats < 65536) ys
    → AllByRecursion (λ y. IsReached (demand_first y.place y.class ps) y.number) ys
    → AllByRecursion (λ y. is_booking_of place class y ≡ true → IsReached (moved (demand_first place class ps) next) y.number) ys
    → AllByRecursion (λ y. is_booking_of place class y ≡ false → demand_smallest y.place y.class ps ≡ Some y.seats
    → IsReached (demand_near y.place y.class ps) y.number) ys
    → AllByRecursion (λ y. is_booking_of place class y ≡ true → smallest_of place class ys ≡ Some y.seats
    → IsReached (moved (demand_near place class ps) close) y.number) ys
    → smallest_of place class xs ≡ Some m → seats_for place class xs ≡ n + seats_for place class ys
    → ((q : Place) (c : ℕ) → is_at place class q c ≡ false → smallest_of q c xs ≡ smallest_of q c ys)
    → ((q : Place) (c : ℕ) → is_at place class q c ≡ false → seats_for q c xs ≡ seats_for q c ys)
    → IsIndexed ys (settled ps place class (smallest_of place class ys) next close n)
changed xs ys ps place class m next close n i ordered waits small low here away close_by there sum smallest seats = record {
  ordered = ordered;
  waits = waits;
  small = small;
  apart = settled_apart ps place class (smallest_of place class ys) next close n i.apart;
  begins =
      all_three (λ y. IsReached (demand_first y.place y.class ps) y.number)
      (λ y. is_booking_of place class y ≡ true → IsReached (moved (demand_first place class ps) next) y.number)
      (λ y. IsReached (smallest_of y.place y.class ys) y.seats)
      (λ y. IsReached (demand_first y.place y.class (settled ps place class (smallest_of place class ys) next close n)) y.number) ys
      (λ y l h s. begins_at y (is_booking_of place class y) refl l h s) low here (least_each ys);
  nears =
      all_both (λ y. is_booking_of place class y ≡ false → demand_smallest y.place y.class ps ≡ Some y.seats
      → IsReached (demand_near y.place y.class ps) y.number)
      (λ y. is_booking_of place class y ≡ true → smallest_of place class ys ≡ Some y.seats
      → IsReached (moved (demand_near place class ps) close) y.number)
      (λ y. demand_smallest y.place y.class (settled ps place class (smallest_of place class ys) next close n) ≡ Some y.seats
      → IsReached (demand_near y.place y.class (settled ps place class (smallest_of place class ys) next close n)) y.number) ys
      (λ y a h e. nears_at y (is_booking_of place class y) refl a h e) away close_by;
  smallest = λ q c. smallest_cases q c (is_at place class q c) refl;
  seats = λ q c. seats_cases q c (is_at place class q c) refl;
} where
  begins_at : (y : Booking) (t : Bool) → is_booking_of place class y ≡ t
      → IsReached (demand_first y.place y.class ps) y.number
      → (is_booking_of place class y ≡ true → IsReached (moved (demand_first place class ps) next) y.number)
      → IsReached (smallest_of y.place y.class ys) y.seats
      → IsReached (demand_first y.place y.class (settled ps place class (smallest_of place class ys) next close n)) y.number
  begins_at y true e l h s =
      let at = at_same place y.place class y.class e in
      let R : Place → ℕ → Type 0 = λ z j. IsReached (smallest_of z j ys) y.seats → IsReached (demand_first z j (settled ps place class (smallest_of place class ys) next close n)) y.number in
      let same : R place class = λ g. begun_here (smallest_of place class ys) g in
      let U : Place → Type 0 = λ z. R z class in
      let V : ℕ → Type 0 = λ j. R y.place j in
      subst V (sym at.1) (subst U (sym at.0) same) s
    where
      begun_here : (o : Option ℕ) → IsReached o y.seats
          → IsReached (demand_first place class (settled ps place class o next close n)) y.number
      begun_here None g = absurd g
      begun_here (Some k) g =
          reached_as (demand_first place class (settled ps place class (Some k) next close n)) (moved (demand_first place class ps) next) y.number
          (settled_begins_here place class k next close n ps) (h e)
  begins_at y false e l h s =
      reached_as (demand_first y.place y.class (settled ps place class (smallest_of place class ys) next close n)) (demand_first y.place y.class ps) y.number
      (settled_begins place class (smallest_of place class ys) next close n y.place y.class ps e) l

  nears_at : (y : Booking) (t : Bool) → is_booking_of place class y ≡ t
      → (is_booking_of place class y ≡ false → demand_smallest y.place y.class ps ≡ Some y.seats
      → IsReached (demand_near y.place y.class ps) y.number)
      → (is_booking_of place class y ≡ true → smallest_of place class ys ≡ Some y.seats
      → IsReached (moved (demand_near place class ps) close) y.number)
      → demand_smallest y.place y.class (settled ps place class (smallest_of place class ys) next close n) ≡ Some y.seats
      → IsReached (demand_near y.place y.class (settled ps place class (smallest_of place class ys) next close n)) y.number
  nears_at y true e a h s =
      let at = at_same place y.place class y.class e in
      let R : Place → ℕ → Type 0 = λ z j. demand_smallest z j (settled ps place class (smallest_of place class ys) next close n) ≡ Some y.seats
      → IsReached (demand_near z j (settled ps place class (smallest_of place class ys) next close n)) y.number in
      let same : R place class =
      λ g. near_here (smallest_of place class ys) refl (sym (settled_smallest_here place class m (smallest_of place class ys) next close n ps i.apart (i.smallest place class ∙ there)) ∙ g) in
      let U : Place → Type 0 = λ z. R z class in
      let V : ℕ → Type 0 = λ j. R y.place j in
      subst V (sym at.1) (subst U (sym at.0) same) s
    where
      near_here : (o : Option ℕ) → smallest_of place class ys ≡ o → o ≡ Some y.seats
          → IsReached (demand_near place class (settled ps place class o next close n)) y.number
      near_here None f g = absurd cc
      near_here (Some k) f g =
          reached_as (demand_near place class (settled ps place class (Some k) next close n)) (moved (demand_near place class ps) close) y.number
          (settled_nears_here place class k next close n ps) (h e (f ∙ g))
  nears_at y false e a h s =
      reached_as (demand_near y.place y.class (settled ps place class (smallest_of place class ys) next close n)) (demand_near y.place y.class ps) y.number
      (settled_nears place class (smallest_of place class ys) next close n y.place y.class ps e)
      (a e (sym (settled_smallest place class (smallest_of place class ys) next close n y.place y.class ps e) ∙ s))

  smallest_cases : (q : Place) (c : ℕ) (t : Bool) → is_at place class q c ≡ t
      → demand_smallest q c (settled ps place class (smallest_of place class ys) next close n) ≡ smallest_of q c ys
  smallest_cases q c true e =
      let h = at_same place q class c e in
      let P : Place → ℕ → Type 0 = λ y j. demand_smallest y j (settled ps place class (smallest_of place class ys) next close n) ≡ smallest_of y j ys in
      let here : P place class = settled_smallest_here place class m (smallest_of place class ys) next close n ps i.apart (i.smallest place class ∙ there) in
      let Q : Place → Type 0 = λ y. P y class in
      let R : ℕ → Type 0 = λ j. P q j in
      subst R (sym h.1) (subst Q (sym h.0) here)
  smallest_cases q c false e = settled_smallest place class (smallest_of place class ys) next close n q c ps e ∙ (i.smallest q c ∙ smallest q c e)

  seats_cases : (q : Place) (c : ℕ) (t : Bool) → is_at place class q c ≡ t
      → demand_seats q c (settled ps place class (smallest_of place class ys) next close n) ≡ seats_for q c ys
  seats_cases q c true e =
      let h = at_same place q class c e in
      let P : Place → ℕ → Type 0 = λ y j. demand_seats y j (settled ps place class (smallest_of place class ys) next close n) ≡ seats_for y j ys in
      let few : smallest_of place class ys ≡ None → demand_seats place class ps ≤ n = λ no. omega (arith, i.seats place class, sum, none_left place class ys no) in
      let here : P place class = settled_seats_here place class (smallest_of place class ys) next close n ps i.apart few ∙ omega (arith, i.seats place class, sum) in
      let Q : Place → Type 0 = λ y. P y class in
      let R : ℕ → Type 0 = λ j. P q j in
      subst R (sym h.1) (subst Q (sym h.0) here)
  seats_cases q c false e = settled_seats place class (smallest_of place class ys) next close n q c ps e ∙ (i.seats q c ∙ seats q c e)

-- what a booking at i is to its demand
least_at : (xs : List Booking) (i : ℕ) (b : Booking) → i < length xs → b ≡ get_or xs i b
    → smallest_of b.place b.class xs ≡ least_with b.seats (smallest_of b.place b.class (remove xs i))
least_at xs i b h is = smallest_get b.place b.class xs i b h is ∙ rw (at_itself b.place b.class) refl

sum_at : (xs : List Booking) (i : ℕ) (b : Booking) → i < length xs → b ≡ get_or xs i b
    → seats_for b.place b.class xs ≡ b.seats + seats_for b.place b.class (remove xs i)
sum_at xs i b h is = seats_get b.place b.class xs i b h is ∙ rw (at_itself b.place b.class) refl

-- the least of all, where none has fewer seats than this one
pub floor_at : (q : Place) (c : ℕ) (xs : List Booking) (i : ℕ) (b : Booking) → i < length xs → b ≡ get_or xs i b
    → is_booking_of q c b ≡ true
    → least_with b.seats (smallest_of q c xs) ≡ Some b.seats → Some b.seats ≡ smallest_of q c xs
floor_at q c xs i b h is here least =
    let all : smallest_of q c xs ≡ least_with b.seats (smallest_of q c (remove xs i)) = smallest_get q c xs i b h is ∙ rw here refl in
    sym least ∙ (ap (least_with b.seats) all ∙ (least_twice b.seats (smallest_of q c (remove xs i)) ∙ sym all))

-- and to those of other places and classes
smallest_away : (q : Place) (c : ℕ) (xs : List Booking) (i : ℕ) (b : Booking) → i < length xs → b ≡ get_or xs i b
    → is_at b.place b.class q c ≡ false → smallest_of q c xs ≡ smallest_of q c (remove xs i)
smallest_away q c xs i b h is e = smallest_get q c xs i b h is ∙ rw (at_turned q b.place c b.class ∙ e) refl

smallest_away_set : (q : Place) (c : ℕ) (xs : List Booking) (i : ℕ) (b : Booking) → i < length xs
    → is_at b.place b.class q c ≡ false → smallest_of q c (set xs i b) ≡ smallest_of q c (remove xs i)
smallest_away_set q c xs i b h e = smallest_set q c xs i b h ∙ rw (at_turned q b.place c b.class ∙ e) refl

seats_away : (q : Place) (c : ℕ) (xs : List Booking) (i : ℕ) (b : Booking) → i < length xs → b ≡ get_or xs i b
    → is_at b.place b.class q c ≡ false → seats_for q c xs ≡ seats_for q c (remove xs i)
seats_away q c xs i b h is e = seats_get q c xs i b h is ∙ rw (at_turned q b.place c b.class ∙ e) refl

seats_away_set : (q : Place) (c : ℕ) (xs : List Booking) (i : ℕ) (b : Booking) → i < length xs
    → is_at b.place b.class q c ≡ false → seats_for q c (set xs i b) ≡ seats_for q c (remove xs i)
seats_away_set q c xs i b h e = seats_set q c xs i b h ∙ rw (at_turned q b.place c b.class ∙ e) refl

-- ---- where a demand begins
-- what is noted for a place is noted for its bookings
at_place : (q : Place) (c : ℕ) (ps : List Demand) (y : Booking) → is_booking_of q c y ≡ true
    → IsReached (demand_first y.place y.class ps) y.number → IsReached (demand_first q c ps) y.number
at_place q c ps y e l =
    let at = at_same q y.place c y.class e in
    let P : Place → Type 0 = λ z. IsReached (demand_first z c ps) y.number in
    let Q : ℕ → Type 0 = λ j. IsReached (demand_first y.place j ps) y.number in
    subst P at.0 (subst Q at.1 l)

kept_none : (o : Option ℕ) (n : ℕ) → IsReached o n → IsReached (moved o None) n
kept_none None n h = h
kept_none (Some m) n h = h

kept_at : (q : Place) (c : ℕ) (ps : List Demand) (y : Booking) → is_booking_of q c y ≡ true
    → IsReached (demand_first y.place y.class ps) y.number → IsReached (moved (demand_first q c ps) None) y.number
kept_at q c ps y e l = kept_none (demand_first q c ps) y.number (at_place q c ps y e l)

pub ordered_gone : (xs : List Booking) (i : ℕ) → IsOrdered xs → IsOrdered (remove xs i)
ordered_gone [] zero o = o
ordered_gone [] (suc i) o = o
ordered_gone (x ∷ xs) zero o = o.1
ordered_gone (x ∷ xs) (suc i) o = (all_remove (λ y. x.number < y.number) xs i o.0, ordered_gone xs i o.1)

-- the next of a place and class is the first of them
next_least : (q : Place) (c : ℕ) (xs : List Booking) (k : ℕ) → IsOrdered xs → next_of q c xs ≡ Some k
    → AllByRecursion (λ y. is_booking_of q c y ≡ true → k ≤ y.number) xs
next_least q c [] k o e = tt
next_least q c (x ∷ xs) k o e = cases (is_booking_of q c x) refl e (next_least q c xs k o.1) where
  cases : (t : Bool) → is_booking_of q c x ≡ t → cond t (Some x.number) (next_of q c xs) ≡ Some k
      → (next_of q c xs ≡ Some k → AllByRecursion (λ y. is_booking_of q c y ≡ true → k ≤ y.number) xs)
      → AllByRecursion (λ y. is_booking_of q c y ≡ true → k ≤ y.number) (x ∷ xs)
  cases true f g rest =
      let same : x.number ≡ k = some_same x.number k g in
      let here : is_booking_of q c x ≡ true → k ≤ x.number = λ h. omega (arith, same) in
      (here, all_map (λ y. x.number < y.number) (λ y. is_booking_of q c y ≡ true → k ≤ y.number) xs (λ y l h. omega (arith, same, l)) o.0)
  cases false f g rest =
      let here : is_booking_of q c x ≡ true → k ≤ x.number = λ h. (let no : true ≡ false = sym h ∙ f in absurd cc) in
      (here, rest g)

-- those that are left behind the first of them begin at the next
next_left : (q : Place) (c : ℕ) (xs : List Booking) (i : ℕ) (b : Booking) (k : ℕ) → IsOrdered xs → i < length xs
    → b ≡ get_or xs i b → AllByRecursion (λ y. is_booking_of q c y ≡ true → b.number ≤ y.number) xs
    → next_of q c (drop i (remove xs i)) ≡ Some k
    → AllByRecursion (λ y. is_booking_of q c y ≡ true → k ≤ y.number) (remove xs i)
next_left q c [] i b k o h is low e = absurd (omega (arith, h))
next_left q c (x ∷ xs) zero b k o h is low e = next_least q c xs k o.1 e
next_left q c (x ∷ xs) (suc i) b k o h is low e =
    let P : Booking → Type 0 = λ y. x.number < y.number in
    let less : x.number < b.number = subst P (sym is) (all_get P xs i b (omega (arith, h)) o.0) in
    let here : is_booking_of q c x ≡ true → k ≤ x.number = λ f. absurd (omega (arith, less, low.0 f)) in
    (here, next_left q c xs i b k o.1 (omega (arith, h)) is low.1 e)

begins_behind : (xs : List Booking) (ps : List Demand) (i : ℕ) (b : Booking) → IsOrdered xs
    → AllByRecursion (λ x. IsReached (demand_first x.place x.class ps) x.number) xs → i < length xs → b ≡ get_or xs i b
    → AllByRecursion (λ y. is_booking_of b.place b.class y ≡ true → IsReached (moved (demand_first b.place b.class ps)
    (next_first (demand_first b.place b.class ps) b.number (next_of b.place b.class (drop i (remove xs i))))) y.number) (remove xs i)
begins_behind xs ps i b o low h is =
    cases (demand_first b.place b.class ps) (next_of b.place b.class (drop i (remove xs i))) refl
    (all_map (λ x. IsReached (demand_first x.place x.class ps) x.number)
    (λ y. is_booking_of b.place b.class y ≡ true → IsReached (demand_first b.place b.class ps) y.number) xs
    (λ y l e. at_place b.place b.class ps y e l) low)
  where
    kept : (first : Option ℕ)
        → AllByRecursion (λ y. is_booking_of b.place b.class y ≡ true → IsReached first y.number) xs
        → AllByRecursion (λ y. is_booking_of b.place b.class y ≡ true → IsReached (moved first None) y.number) (remove xs i)
    kept first at =
        all_remove (λ y. is_booking_of b.place b.class y ≡ true → IsReached (moved first None) y.number) xs i
        (all_map (λ y. is_booking_of b.place b.class y ≡ true → IsReached first y.number)
        (λ y. is_booking_of b.place b.class y ≡ true → IsReached (moved first None) y.number) xs
        (λ y l f. kept_none first y.number (l f)) at)

    cases : (first next : Option ℕ) → next_of b.place b.class (drop i (remove xs i)) ≡ next
        → AllByRecursion (λ y. is_booking_of b.place b.class y ≡ true → IsReached first y.number) xs
        → AllByRecursion (λ y. is_booking_of b.place b.class y ≡ true
        → IsReached (moved first (next_first first b.number next)) y.number) (remove xs i)
    cases None next f at = kept None at
    cases (Some m) None f at = either (m == b.number) where
      either : (t : Bool) → AllByRecursion (λ y. is_booking_of b.place b.class y ≡ true
          → IsReached (moved (Some m) (cond t None None)) y.number) (remove xs i)
      either true = kept (Some m) at
      either false = kept (Some m) at
    cases (Some m) (Some k) f at = either (m == b.number) refl where
      either : (t : Bool) → (m == b.number) ≡ t
          → AllByRecursion (λ y. is_booking_of b.place b.class y ≡ true
          → IsReached (moved (Some m) (cond t (Some k) None)) y.number) (remove xs i)
      either false g = kept (Some m) at
      either true g =
          let same : m ≡ b.number = nat_same m b.number g in
          next_left b.place b.class xs i b k o h is
          (all_map (λ y. is_booking_of b.place b.class y ≡ true → IsReached (Some m) y.number)
          (λ y. is_booking_of b.place b.class y ≡ true → b.number ≤ y.number) xs
          (λ y l p. let le : m ≤ y.number = l p in omega (arith, le, same)) at)
          f

-- ---- where the smallest of a demand begin
-- what is noted for a place and class is one demand's
record Told (q : Place) (c : ℕ) (ps : List Demand) (p : Demand) : Type 0 where
  small_is : demand_smallest q c ps ≡ Some p.smallest
  near_is : demand_near q c ps ≡ Some p.near
  first_is : demand_first q c ps ≡ Some p.first
  nearer_is : (k n : ℕ) → demand_nearer q c k n ps ≡ Some (nearer k n p)
  from_is : (m : ℕ) → demand_from q c m ps ≡ Some (if p.smallest == m then p.near else p.first)

told_of : (q : Place) (c m : ℕ) (ps : List Demand) → demand_smallest q c ps ≡ Some m → (p : Demand) × Told q c ps p
told_of q c m [] e = absurd cc
told_of q c m (p ∷ ps) e = cases (is_demand_of q c p) refl e (told_of q c m ps) where
  cases : (t : Bool) → is_demand_of q c p ≡ t → cond t (Some p.smallest) (demand_smallest q c ps) ≡ Some m
      → (demand_smallest q c ps ≡ Some m → (r : Demand) × Told q c ps r) → (r : Demand) × Told q c (p ∷ ps) r
  cases true f g rest = (
    p,
    record {
      small_is = rw f refl;
      near_is = rw f refl;
      first_is = rw f refl;
      nearer_is = λ k n. rw f refl;
      from_is = λ k. rw f refl;
    },
  )
  cases false f g rest =
      let r = rest g in (
        r.0,
        record {
          small_is = rw f r.1.small_is;
          near_is = rw f r.1.near_is;
          first_is = rw f r.1.first_is;
          nearer_is = λ k n. rw f (r.1.nearer_is k n);
          from_is = λ k. rw f (r.1.from_is k);
        },
      )

-- the first party of a list in order of number is before the others
party_first : (q : Place) (c m : ℕ) (xs : List Booking) → IsOrdered xs
    → AllByRecursion (λ y. is_party_of q c m y ≡ true → IsReached (next_party q c m xs) y.number) xs
party_first q c m [] o = tt
party_first q c m (x ∷ xs) o = cases (is_party_of q c m x) refl (party_first q c m xs o.1) where
  cases : (t : Bool) → is_party_of q c m x ≡ t
      → AllByRecursion (λ y. is_party_of q c m y ≡ true → IsReached (next_party q c m xs) y.number) xs
      → AllByRecursion (λ y. is_party_of q c m y ≡ true → IsReached (next_party q c m (x ∷ xs)) y.number) (x ∷ xs)
  cases true f rest =
      let is : next_party q c m (x ∷ xs) ≡ Some x.number = rw f refl in
      let least : (n : ℕ) → x.number ≤ n → IsReached (next_party q c m (x ∷ xs)) n = λ n le. reached_as (next_party q c m (x ∷ xs)) (Some x.number) n is le in
      let here : is_party_of q c m x ≡ true → IsReached (next_party q c m (x ∷ xs)) x.number = λ e. least x.number (omega arith) in (
        here,
        all_map (λ y. x.number < y.number) (λ y. is_party_of q c m y ≡ true → IsReached (next_party q c m (x ∷ xs)) y.number) xs
            (λ y l e. least y.number (omega (arith, l))) o.0,
      )
  cases false f rest =
      let is : next_party q c m (x ∷ xs) ≡ next_party q c m xs = rw f refl in
      let here : is_party_of q c m x ≡ true → IsReached (next_party q c m (x ∷ xs)) x.number = λ e. (let no : true ≡ false = sym e ∙ f in absurd cc) in (
        here,
        all_map (λ y. is_party_of q c m y ≡ true → IsReached (next_party q c m xs) y.number)
            (λ y. is_party_of q c m y ≡ true → IsReached (next_party q c m (x ∷ xs)) y.number) xs
            (λ y l e. reached_as (next_party q c m (x ∷ xs)) (next_party q c m xs) y.number is (l e)) rest,
      )

-- and so is the first from a number on that no party is below
party_from : (q : Place) (c m n : ℕ) (xs : List Booking) → IsOrdered xs
    → AllByRecursion (λ y. is_party_of q c m y ≡ true → n ≤ y.number) xs
    → AllByRecursion (λ y. is_party_of q c m y ≡ true → IsReached (near_from q c m (Some n) xs) y.number) xs
party_from q c m n [] o low = tt
party_from q c m n (x ∷ xs) o low = cases (nat_lt x.number n) refl (party_from q c m n xs o.1 low.1) where
  cases : (t : Bool) → nat_lt x.number n ≡ t
      → AllByRecursion (λ y. is_party_of q c m y ≡ true → IsReached (near_from q c m (Some n) xs) y.number) xs
      → AllByRecursion (λ y. is_party_of q c m y ≡ true → IsReached (near_from q c m (Some n) (x ∷ xs)) y.number) (x ∷ xs)
  cases true f rest =
      let below : x.number < n = grind (arith, nat_tests) in
      let more : prefix_len (λ (b : Booking). nat_lt b.number n) (x ∷ xs) ≡ suc (prefix_len (λ (b : Booking). nat_lt b.number n) xs) = rw f (omega arith) in
      let is : near_from q c m (Some n) (x ∷ xs) ≡ near_from q c m (Some n) xs = ap (λ (k : ℕ). next_party q c m (drop k (x ∷ xs))) more in
      let here : is_party_of q c m x ≡ true → IsReached (near_from q c m (Some n) (x ∷ xs)) x.number = λ e. absurd (omega (arith, below, low.0 e)) in (
        here,
        all_map (λ y. is_party_of q c m y ≡ true → IsReached (near_from q c m (Some n) xs) y.number)
            (λ y. is_party_of q c m y ≡ true → IsReached (near_from q c m (Some n) (x ∷ xs)) y.number) xs
            (λ y l e. reached_as (near_from q c m (Some n) (x ∷ xs)) (near_from q c m (Some n) xs) y.number is (l e)) rest,
      )
  cases false f rest =
      let none : prefix_len (λ (b : Booking). nat_lt b.number n) (x ∷ xs) ≡ 0 = rw f refl in
      let is : near_from q c m (Some n) (x ∷ xs) ≡ next_party q c m (x ∷ xs) = ap (λ (k : ℕ). next_party q c m (drop k (x ∷ xs))) none in
      all_map (λ y. is_party_of q c m y ≡ true → IsReached (next_party q c m (x ∷ xs)) y.number)
      (λ y. is_party_of q c m y ≡ true → IsReached (near_from q c m (Some n) (x ∷ xs)) y.number) (x ∷ xs)
      (λ y l e. reached_as (near_from q c m (Some n) (x ∷ xs)) (next_party q c m (x ∷ xs)) y.number is (l e)) (party_first q c m (x ∷ xs) o)

close_reached : (near : ℕ) (o close : Option ℕ) (n : ℕ) → o ≡ Some near → IsReached close n → IsReached (moved o close) n
close_reached near o None n e h = absurd h
close_reached near o (Some k) n e h = reached_as (moved o (Some k)) (Some k) n (ap (λ (p : Option ℕ). moved p (Some k)) e) h

-- those with the least seats of a place and class
near_at : (q : Place) (c : ℕ) (ps : List Demand) (p : Demand) (y : Booking) → Told q c ps p → is_booking_of q c y ≡ true
    → (demand_smallest y.place y.class ps ≡ Some y.seats → IsReached (demand_near y.place y.class ps) y.number)
    → p.smallest ≡ y.seats → p.near ≤ y.number
near_at q c ps p y told e h same =
    let at = at_same q y.place c y.class e in
    let R : Place → ℕ → Type 0 = λ z j. (demand_smallest z j ps ≡ Some y.seats → IsReached (demand_near z j ps) y.number) in
    let S : Place → Type 0 = λ z. R z c in
    let T : ℕ → Type 0 = λ j. R y.place j in
    let there : R q c = subst S at.0 (subst T at.1 h) in
    let le : p.near ≤ y.number = reached_as (Some p.near) (demand_near q c ps) y.number (sym told.near_is) (there (told.small_is ∙ ap Some same)) in
    le

first_at_most : (q : Place) (c : ℕ) (ps : List Demand) (p : Demand) (y : Booking) → Told q c ps p
    → is_booking_of q c y ≡ true → IsReached (demand_first y.place y.class ps) y.number → p.first ≤ y.number
first_at_most q c ps p y told e l =
    let le : p.first ≤ y.number = reached_as (Some p.first) (demand_first q c ps) y.number (sym told.first_is) (at_place q c ps y e l) in
    le

nears_behind : (q : Place) (c : ℕ) (ps : List Demand) (p : Demand) (ys : List Booking) → Told q c ps p → IsOrdered ys
    → AllByRecursion (λ y. IsReached (demand_first y.place y.class ps) y.number) ys
    → AllByRecursion (λ y. demand_smallest y.place y.class ps ≡ Some y.seats → IsReached (demand_near y.place y.class ps) y.number) ys
    → AllByRecursion (λ y. is_booking_of q c y ≡ true → smallest_of q c ys ≡ Some y.seats
    → IsReached (moved (demand_near q c ps) (near_left q c (smallest_of q c ys) ps ys)) y.number) ys
nears_behind q c ps p ys told ordered low near = cases (smallest_of q c ys) where
  party : (y : Booking) (m : ℕ) → is_booking_of q c y ≡ true → m ≡ y.seats → is_party_of q c m y ≡ true
  party y m e same =
      let seats : (y.seats == m) ≡ true = grind (arith, nat_tests) in
      rw (e, seats) refl

  from_below : (y : Booking) (m : ℕ) → IsReached (demand_first y.place y.class ps) y.number
      → (demand_smallest y.place y.class ps ≡ Some y.seats → IsReached (demand_near y.place y.class ps) y.number)
      → is_party_of q c m y ≡ true → (if p.smallest == m then p.near else p.first) ≤ y.number
  from_below y m l n e =
      let both = both_true (is_booking_of q c y) (y.seats == m) e in
      let same : y.seats ≡ m = nat_same y.seats m both.1 in
      either both.0 same (p.smallest == m) refl
    where
      either : is_booking_of q c y ≡ true → y.seats ≡ m → (t : Bool) → (p.smallest == m) ≡ t → cond t p.near p.first ≤ y.number
      either here same true f = near_at q c ps p y told here n (nat_same p.smallest m f ∙ sym same)
      either here same false f = first_at_most q c ps p y told here l

  cases : (o : Option ℕ) → AllByRecursion (λ y. is_booking_of q c y ≡ true → o ≡ Some y.seats
      → IsReached (moved (demand_near q c ps) (near_left q c o ps ys)) y.number) ys
  cases None = all_map (λ y. IsReached (demand_first y.place y.class ps) y.number)
      (λ y. is_booking_of q c y ≡ true → ◌≡◌ {A = Option ℕ} None (Some y.seats)
      → IsReached (moved (demand_near q c ps) (near_left q c None ps ys)) y.number) ys (λ y l e f. absurd cc) low
  cases (Some m) =
      all_map (λ y. is_party_of q c m y ≡ true → IsReached (near_from q c m (Some (if p.smallest == m then p.near else p.first)) ys) y.number)
      (λ y. is_booking_of q c y ≡ true → Some m ≡ Some y.seats
      → IsReached (moved (demand_near q c ps) (near_left q c (Some m) ps ys)) y.number) ys
      (λ y h e f. close_reached p.near (demand_near q c ps) (near_left q c (Some m) ps ys) y.number told.near_is
      (reached_as (near_left q c (Some m) ps ys) (near_from q c m (Some (if p.smallest == m then p.near else p.first)) ys) y.number
      (ap (λ (o : Option ℕ). near_from q c m o ys) (told.from_is m)) (h (party y m e (some_same m y.seats f)))))
      (party_from q c m (if p.smallest == m then p.near else p.first) ys ordered
      (all_both (λ y. IsReached (demand_first y.place y.class ps) y.number)
      (λ y. demand_smallest y.place y.class ps ≡ Some y.seats → IsReached (demand_near y.place y.class ps) y.number)
      (λ y. is_party_of q c m y ≡ true → (if p.smallest == m then p.near else p.first) ≤ y.number) ys
      (λ y l n e. from_below y m l n e) low near))

some_least : (n : ℕ) (o : Option ℕ) → (m : ℕ) × (least_with n o ≡ Some m)
some_least n None = (n, refl)
some_least n (Some k) = (min n k, refl)

pub demand_enough : (xs : List Booking) (ps : List Demand) (i : ℕ) (b : Booking) → IsIndexed xs ps → i < length xs
    → b ≡ get_or xs i b → b.seats ≤ demand_seats b.place b.class ps
demand_enough xs ps i b indexed h is = omega (arith, indexed.seats b.place b.class, sum_at xs i b h is)

pub demand_least : (xs : List Booking) (ps : List Demand) (i : ℕ) (b : Booking) → IsIndexed xs ps → i < length xs
    → b ≡ get_or xs i b
    → demand_smallest b.place b.class ps ≡ least_with b.seats (smallest_of b.place b.class (remove xs i))
demand_least xs ps i b indexed h is = indexed.smallest b.place b.class ∙ least_at xs i b h is

pub left : (xs : List Booking) (ps : List Demand) (i : ℕ) (b : Booking) → IsIndexed xs ps → i < length xs
    → b ≡ get_or xs i b
    → IsIndexed (remove xs i) (settled ps b.place b.class (smallest_of b.place b.class (remove xs i))
    (next_first (demand_first b.place b.class ps) b.number (next_of b.place b.class (drop i (remove xs i))))
    (near_left b.place b.class (smallest_of b.place b.class (remove xs i)) ps (remove xs i)) b.seats)
left xs ps i b indexed h is =
    let some = some_least b.seats (smallest_of b.place b.class (remove xs i)) in
    let next : Option ℕ = next_first (demand_first b.place b.class ps) b.number (next_of b.place b.class (drop i (remove xs i))) in
    let close : Option ℕ = near_left b.place b.class (smallest_of b.place b.class (remove xs i)) ps (remove xs i) in
    let told = told_of b.place b.class some.0 ps (demand_least xs ps i b indexed h is ∙ some.1) in
    let N : Booking → Type 0 = λ x. demand_smallest x.place x.class ps ≡ Some x.seats → IsReached (demand_near x.place x.class ps) x.number in
    let near : AllByRecursion N (remove xs i) = all_remove N xs i indexed.nears in
    changed xs (remove xs i) ps b.place b.class some.0 next close b.seats indexed
    (ordered_gone xs i indexed.ordered)
    (all_remove (λ x. is_waiting x.status ≡ true) xs i indexed.waits)
    (all_remove (λ x. x.seats < 65536) xs i indexed.small)
    (all_remove (λ x. IsReached (demand_first x.place x.class ps) x.number) xs i indexed.begins)
    (begins_behind xs ps i b indexed.ordered indexed.begins h is)
    (all_map N (λ x. is_booking_of b.place b.class x ≡ false → N x) (remove xs i) (λ x n e. n) near)
    (nears_behind b.place b.class ps told.0 (remove xs i) told.1 (ordered_gone xs i indexed.ordered)
    (all_remove (λ x. IsReached (demand_first x.place x.class ps) x.number) xs i indexed.begins) near)
    (least_at xs i b h is ∙ some.1)
    (sum_at xs i b h is)
    (λ q c e. smallest_away q c xs i b h is e)
    (λ q c e. seats_away q c xs i b h is e)

nears_less : (q : Place) (c : ℕ) (ps : List Demand) (p : Demand) (xs : List Booking) (i : ℕ) (a : Booking) (left : ℕ)
    → Told q c ps p → ((z : Place) (j : ℕ) → demand_smallest z j ps ≡ smallest_of z j xs)
    → smallest_of q c (set xs i a) ≡ Some (min left p.smallest)
    → AllByRecursion (λ y. demand_smallest y.place y.class ps ≡ Some y.seats → IsReached (demand_near y.place y.class ps) y.number) xs
    → left ≡ a.seats
    → AllByRecursion (λ y. is_booking_of q c y ≡ true → smallest_of q c (set xs i a) ≡ Some y.seats
    → IsReached (moved (demand_near q c ps) (demand_nearer q c a.number left ps)) y.number) (set xs i a)
nears_less q c ps p xs i a left told smallest now near is =
    all_set (λ y. is_booking_of q c y ≡ true → smallest_of q c (set xs i a) ≡ Some y.seats
    → IsReached (moved (demand_near q c ps) (demand_nearer q c a.number left ps)) y.number) xs i a
    (all_both (λ y. IsReached (smallest_of y.place y.class xs) y.seats)
    (λ y. demand_smallest y.place y.class ps ≡ Some y.seats → IsReached (demand_near y.place y.class ps) y.number)
    (λ y. is_booking_of q c y ≡ true → smallest_of q c (set xs i a) ≡ Some y.seats
    → IsReached (moved (demand_near q c ps) (demand_nearer q c a.number left ps)) y.number) xs
    (λ y s n e f. close y.number (other y s n e f (nat_lt left p.smallest) refl)) (least_each xs) near)
    (λ e f. close a.number (own (nat_lt left p.smallest)))
  where
    close : (n : ℕ) → nearer a.number left p ≤ n → IsReached (moved (demand_near q c ps) (demand_nearer q c a.number left ps)) n
    close n le =
        close_reached p.near (demand_near q c ps) (demand_nearer q c a.number left ps) n told.near_is
        (reached_as (demand_nearer q c a.number left ps) (Some (nearer a.number left p)) n (told.nearer_is a.number left) le)

    own : (t : Bool) → cond t a.number (min a.number p.near) ≤ a.number
    own true = let le : a.number ≤ a.number = omega arith in le
    own false = let le : min a.number p.near ≤ a.number = omega arith in le

    other : (y : Booking) → IsReached (smallest_of y.place y.class xs) y.seats
        → (demand_smallest y.place y.class ps ≡ Some y.seats → IsReached (demand_near y.place y.class ps) y.number)
        → is_booking_of q c y ≡ true → smallest_of q c (set xs i a) ≡ Some y.seats
        → (t : Bool) → nat_lt left p.smallest ≡ t → cond t a.number (min a.number p.near) ≤ y.number
    other y s n e f t less =
        let at = at_same q y.place c y.class e in
        let S : Place → Type 0 = λ z. IsReached (smallest_of z c xs) y.seats in
        let T : ℕ → Type 0 = λ j. IsReached (smallest_of y.place j xs) y.seats in
        let there : IsReached (smallest_of q c xs) y.seats = subst S at.0 (subst T at.1 s) in
        let most : p.smallest ≤ y.seats = reached_as (Some p.smallest) (smallest_of q c xs) y.seats (sym told.small_is ∙ smallest q c) there in
        let least : min left p.smallest ≡ y.seats = some_same (min left p.smallest) y.seats (sym now ∙ f) in
        either most least t less
      where
        either : p.smallest ≤ y.seats → min left p.smallest ≡ y.seats → (t : Bool) → nat_lt left p.smallest ≡ t
            → cond t a.number (min a.number p.near) ≤ y.number
        either most least true g = let lt : left < p.smallest = grind (arith, nat_tests) in absurd (omega (arith, lt, most, least))
        either most least false g =
            let ge : p.smallest ≤ left = grind (arith, nat_tests) in
            let same : p.smallest ≡ y.seats = omega (arith, ge, most, least) in
            let low : p.near ≤ y.number = near_at q c ps p y told e n same in
            let le : min a.number p.near ≤ y.number = omega (arith, low) in
            le

pub lessened : (xs : List Booking) (ps : List Demand) (i : ℕ) (b : Booking) (n : ℕ) → IsIndexed xs ps → i < length xs
    → b ≡ get_or xs i b → n ≤ b.seats → IsOrdered (set xs i (record b { seats = b.seats - n }))
    → IsIndexed (set xs i (record b { seats = b.seats - n }))
    (settled ps b.place b.class (least_with (b.seats - n) (demand_smallest b.place b.class ps)) None
    (demand_nearer b.place b.class b.number (b.seats - n) ps) n)
lessened xs ps i b n indexed h is le ordered =
    let a : Booking = record b { seats = b.seats - n } in
    let ys : List Booking = set xs i a in
    let some = some_least b.seats (smallest_of b.place b.class (remove xs i)) in
    let old : smallest_of b.place b.class xs ≡ least_with b.seats (smallest_of b.place b.class (remove xs i)) = least_at xs i b h is in
    let new : smallest_of b.place b.class ys ≡ least_with (b.seats - n) (smallest_of b.place b.class (remove xs i)) = smallest_set b.place b.class xs i a h ∙ rw (at_itself b.place b.class) refl in
    let sum : seats_for b.place b.class ys ≡ (b.seats - n) + seats_for b.place b.class (remove xs i) = seats_set b.place b.class xs i a h ∙ rw (at_itself b.place b.class) refl in
    let same : smallest_of b.place b.class ys ≡ least_with (b.seats - n) (demand_smallest b.place b.class ps) =
    new
    ∙ (least_lower (b.seats - n) b.seats (smallest_of b.place b.class (remove xs i)) (omega arith)
    ∙ ap (least_with (b.seats - n)) (sym (indexed.smallest b.place b.class ∙ old))) in
    let waits : is_waiting b.status ≡ true =
    let P : Booking → Type 0 = λ x. is_waiting x.status ≡ true in subst P (sym is) (all_get (λ x. is_waiting x.status ≡ true) xs i b h indexed.waits) in
    let small : b.seats < 65536 =
    let P : Booking → Type 0 = λ x. x.seats < 65536 in subst P (sym is) (all_get (λ x. x.seats < 65536) xs i b h indexed.small) in
    let B : Booking → Type 0 = λ x. IsReached (demand_first x.place x.class ps) x.number in
    let low : AllByRecursion B ys = all_set B xs i a indexed.begins (subst B (sym is) (all_get B xs i b h indexed.begins)) in
    let P : Option ℕ → Type 0 = λ o. IsIndexed ys (settled ps b.place b.class o None (demand_nearer b.place b.class b.number (b.seats - n) ps) n) in
    let N : Booking → Type 0 = λ x. demand_smallest x.place x.class ps ≡ Some x.seats → IsReached (demand_near x.place x.class ps) x.number in
    let told = told_of b.place b.class some.0 ps (indexed.smallest b.place b.class ∙ (old ∙ some.1)) in
    let away : is_booking_of b.place b.class a ≡ false → N a = λ e. (let no : true ≡ false = sym (at_itself b.place b.class) ∙ e in absurd cc) in
    subst P same
    (changed xs ys ps b.place b.class some.0 None (demand_nearer b.place b.class b.number (b.seats - n) ps) n indexed ordered
    (all_set (λ x. is_waiting x.status ≡ true) xs i a indexed.waits waits)
    (all_set (λ x. x.seats < 65536) xs i a indexed.small (omega (arith, small)))
    low
    (all_map B (λ x. is_booking_of b.place b.class x ≡ true → IsReached (moved (demand_first b.place b.class ps) None) x.number) ys
    (λ x l e. kept_at b.place b.class ps x e l) low)
    (all_set (λ x. is_booking_of b.place b.class x ≡ false → N x) xs i a
    (all_map N (λ x. is_booking_of b.place b.class x ≡ false → N x) xs (λ x f e. f) indexed.nears) away)
    (nears_less b.place b.class ps told.0 xs i a (b.seats - n) told.1 indexed.smallest (same ∙ ap (least_with (b.seats - n)) told.1.small_is) indexed.nears refl)
    (old ∙ some.1)
    (omega (arith, sum, sum_at xs i b h is))
    (λ q c e. smallest_away q c xs i b h is e ∙ sym (smallest_away_set q c xs i a h e))
    (λ q c e. seats_away q c xs i b h is e ∙ sym (seats_away_set q c xs i a h e)))

-- the booking of a command
found_at : (locator : List ℕ) (place : Place) (class : ℕ) (xs : List Booking) (i : ℕ) (b : Booking)
    → position (is_for locator place class) xs ≡ Some i → b ≡ get_or xs i b
    → (i < length xs) × (b.place ≡ place) × (b.class ≡ class)
found_at locator place class xs i b found is =
    let first = position-Some (is_for locator place class) xs i b found in
    let here : is_for locator place class b ≡ true = let P : Booking → Type 0 = λ x. is_for locator place class x ≡ true in subst P (sym is) first.1 in
    let left = both_true (pointwise nat_eq b.locator locator && same_place b.place place) (b.class == class) here in
    let near = both_true (pointwise nat_eq b.locator locator) (same_place b.place place) left.0 in
    (first.0, place_same b.place place near.1, nat_same b.class class left.1)

pub reduced_enough : (xs : List Booking) (ps : List Demand) (locator : List ℕ) (place : Place) (class n i : ℕ)
    (b : Booking) → IsIndexed xs ps
    → position (is_for locator place class) xs ≡ Some i → b ≡ get_or xs i b → n < b.seats
    → n ≤ demand_seats place class ps
reduced_enough xs ps locator place class n i b indexed found is lt =
    let at = found_at locator place class xs i b found is in
    let P : Place → Type 0 = λ y. n ≤ demand_seats y class ps in
    let Q : ℕ → Type 0 = λ j. n ≤ demand_seats b.place j ps in
    subst P at.1 (subst Q at.2 (omega (arith, lt, demand_enough xs ps i b indexed at.0 is)))

pub reduced_indexed : (xs : List Booking) (ps : List Demand) (locator : List ℕ) (place : Place) (class n i : ℕ)
    (b : Booking) → IsIndexed xs ps
    → position (is_for locator place class) xs ≡ Some i → b ≡ get_or xs i b → n < b.seats
    → IsIndexed (reduced (is_for locator place class) n xs)
    (settled ps place class (least_with (b.seats - n) (demand_smallest place class ps)) None (demand_nearer place class b.number (b.seats - n) ps) n)
reduced_indexed xs ps locator place class n i b indexed found is lt =
    let at = found_at locator place class xs i b found is in
    let ys : List Booking = set xs i (record b { seats = b.seats - n }) in
    let ordered : IsOrdered ys = subst IsOrdered (reduced_less (is_for locator place class) n xs i b found is lt) (ordered_reduced (is_for locator place class) n xs indexed.ordered) in
    let P : Place → Type 0 = λ y. IsIndexed ys (settled ps y class (least_with (b.seats - n) (demand_smallest y class ps)) None (demand_nearer y class b.number (b.seats - n) ps) n) in
    let Q : ℕ → Type 0 = λ j. IsIndexed ys (settled ps b.place j (least_with (b.seats - n) (demand_smallest b.place j ps)) None (demand_nearer b.place j b.number (b.seats - n) ps) n) in
    let R : List Booking → Type 0 = λ zs. IsIndexed zs (settled ps place class (least_with (b.seats - n) (demand_smallest place class ps)) None (demand_nearer place class b.number (b.seats - n) ps) n) in
    subst R (sym (reduced_less (is_for locator place class) n xs i b found is lt))
    (subst P at.1 (subst Q at.2 (lessened xs ps i b n indexed at.0 is (omega (arith, lt)) ordered)))

-- one booking more leaves the seats of a demand below the most of its field
pub seats_spare : (xs : List Booking) (ps : List Demand) (place : Place) (class n : ℕ) (room : Bool)
    (demands memory : ℕ) → IsIndexed xs ps → has_spare (length xs) room demands memory ≡ true → n < 65536
    → demand_seats place class ps + n < 2 ^ 64
seats_spare xs ps place class n room demands memory indexed spare few =
    let h = both_true (nat_lt (length xs) (2 ^ 32)) room (both_true (nat_lt (length xs) (2 ^ 32) && room) (nat_lt demands memory) spare).0 in
    let short : length xs < 2 ^ 32 = (let e = h.0 in grind (arith, nat_tests)) in
    omega (arith, indexed.seats place class, seats_few place class xs indexed.small, short, few)

-- the booking of a number
pub number_gone : (xs : List Booking) (number i : ℕ) → Some i ≡ position (λ (b : Booking). b.number == number) xs
    → without xs number ≡ remove xs i
number_gone [] number i found = absurd cc
number_gone (x ∷ xs) number i found = without_found (x ∷ xs) number i x found

-- ---- one that is as small waits still
any_behind : (test : Booking → Bool) (xs : List Booking) (k : ℕ) → list_any test (drop k xs) ≡ true
    → list_any test xs ≡ true
any_behind test xs zero e = e
any_behind test [] (suc k) e = absurd cc
any_behind test (x ∷ xs) (suc k) e = either (test x) (list_any test xs) (any_behind test xs k e) where
  either : (t u : Bool) → u ≡ true → (t || u) ≡ true
  either true u e = refl
  either false u e = e

as_small : (q : Place) (c n : ℕ) (xs : List Booking) → list_any (is_party_of q c n) xs ≡ true
    → smallest_of q c xs ≡ least_with n (smallest_of q c xs)
as_small q c n [] e = absurd cc
as_small q c n (x ∷ xs) e = cases (is_booking_of q c x) (x.seats == n) refl refl e (as_small q c n xs) where
  cases : (t u : Bool) → is_booking_of q c x ≡ t → (x.seats == n) ≡ u
      → ((t && u) || list_any (is_party_of q c n) xs) ≡ true
      → (list_any (is_party_of q c n) xs ≡ true → smallest_of q c xs ≡ least_with n (smallest_of q c xs))
      → smallest_of q c (x ∷ xs) ≡ least_with n (smallest_of q c (x ∷ xs))
  cases true true f g any rest =
      let same : x.seats ≡ n = nat_same x.seats n g in
      rw f (rw same (sym (least_twice n (smallest_of q c xs))))
  cases true false f g any rest = rw f (ap (least_with x.seats) (rest any) ∙ least_swap x.seats n (smallest_of q c xs))
  cases false u f g any rest = rw f (rest any)

pub least_behind : (q : Place) (c n m k : ℕ) (xs : List Booking) (t : Bool)
    → t ≡ list_any (is_party_of q c m) (drop k xs) → t ≡ true → Some m ≡ least_with n (smallest_of q c xs) → n ≤ m
    → Some m ≡ smallest_of q c xs
least_behind q c n m k xs t is h least le =
    let any : list_any (is_party_of q c m) xs ≡ true = any_behind (is_party_of q c m) xs k (sym is ∙ h) in
    sym (as_small q c m xs any ∙ same_least m n (smallest_of q c xs) least le)
