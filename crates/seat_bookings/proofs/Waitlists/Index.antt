-- The demands of a waiting list stay what its bookings are.
use Rattle.std.proofs.Common.{◌≡◌, ◌==◌, ◌||◌, ℕ, zero, suc, ◌+◌, ◌*◌, ◌<◌, ◌≤◌, Bool, true, false, min, cond, nat_lt, List, [], ◌∷◌, ◌++◌, length, get_or, set, remove, Option, Some, None, if◌then◌else◌, arith, refl, sym, subst, ap, ◌∙◌}
use Rattle.seat_bookings.proofs.Common.{AllByRecursion, Place, Booking, Demand, is_waiting, is_at, is_demand_of, is_booking_of, is_apart, least_with, smallest_of, seats_for, demand_smallest, demand_seats, IsIndexed}
use Rattle.std.specs.List.{list_any}
use Rattle.std.proofs.lemmas.Bool.Decides.{nat_tests}
use Rattle.std.proofs.lemmas.List.{set-get_or}
use Rattle.seat_rules.specs.Applying.{IsOrdered}
use Rattle.seat_rules.specs.Bookings.{same_place}
use Rattle.seat_bookings.specs.Demands.{joined, demand_first, demand_near, IsReached}
use Rattle.seat_rules.proofs.History.Faults.{nat_same, place_same, same_nat}
use Rattle.seat_rules.proofs.Passes.Quiet.{all_push, all_map}
use Rattle.airline_base.proofs.Tests.{both_true}

-- ---- places and classes
pub turned : (m n : ℕ) → (m == n) ≡ (n == m)
turned m n = grind (arith, nat_tests)

pub at_itself : (place : Place) (class : ℕ) → is_at place class place class ≡ true
at_itself place class = rw (same_nat place.flight, same_nat place.from, same_nat place.to, same_nat class) refl

pub at_turned : (p q : Place) (m n : ℕ) → is_at p m q n ≡ is_at q n p m
at_turned p q m n = rw (turned p.flight q.flight, turned p.from q.from, turned p.to q.to, turned m n) refl

pub at_same : (p q : Place) (m n : ℕ) → is_at p m q n ≡ true → (q ≡ p) × (n ≡ m)
at_same p q m n e =
    let h = both_true (same_place q p) (n == m) e in
    (place_same q p h.0, nat_same n m h.1)

-- what is at one is not at another
pub at_other : (p q x : Place) (m n k : ℕ) → is_at p m q n ≡ false → is_at p m x k ≡ true → is_at q n x k ≡ false
at_other p q x m n k other here =
    let h = at_same p x m k here in
    let P : Place → ℕ → Type 0 = λ y j. is_at q n y j ≡ false in
    let Q : ℕ → Type 0 = λ j. P x j in
    let R : Place → Type 0 = λ y. P y m in
    subst Q (sym h.1) (subst R (sym h.0) (at_turned q p n m ∙ other))

-- ---- least seats
pub least_swap : (m n : ℕ) (o : Option ℕ) → least_with m (least_with n o) ≡ least_with n (least_with m o)
least_swap m n None = ap Some (omega arith)
least_swap m n (Some k) = ap Some (omega arith)

pub least_lower : (m n : ℕ) (o : Option ℕ) → m ≤ n → least_with m o ≡ least_with m (least_with n o)
least_lower m n None le = ap Some (omega arith)
least_lower m n (Some k) le = ap Some (omega arith)

pub least_twice : (n : ℕ) (o : Option ℕ) → least_with n (least_with n o) ≡ least_with n o
least_twice n None = ap Some (omega arith)
least_twice n (Some k) = ap Some (omega arith)

-- the least of a booking and others is that of the others, or there are none that are less
pub none_least : (n : ℕ) (o : Option ℕ) → None ≡ least_with n o → None ≡ o
none_least n None e = refl
none_least n (Some k) e = absurd cc

pub some_same : (m n : ℕ) → Some m ≡ Some n → m ≡ n
some_same m n e = cc

pub other_least : (m n : ℕ) (o : Option ℕ) → Some m ≡ least_with n o → m < n → Some m ≡ o
other_least m n None e lt = absurd (omega (arith, lt, some_same m n e))
other_least m n (Some k) e lt = ap Some (omega (arith, lt, some_same m (min n k) e))

pub same_least : (m n : ℕ) (o : Option ℕ) → Some m ≡ least_with n o → n ≤ m → least_with m o ≡ Some m
same_least m n None e le = refl
same_least m n (Some k) e le = ap Some (omega (arith, le, some_same m (min n k) e))

-- what holds of each by two things that hold of each
pub all_both : (P Q R : Booking → Type 0) (xs : List Booking) → ((b : Booking) → P b → Q b → R b)
    → AllByRecursion P xs → AllByRecursion Q xs → AllByRecursion R xs
all_both P Q R [] f a b = tt
all_both P Q R (x ∷ xs) f a b = (f x a.0 b.0, all_both P Q R xs f a.1 b.1)

-- ---- a number that is noted and not above another
pub reached_as : (o p : Option ℕ) (n : ℕ) → o ≡ p → IsReached p n → IsReached o n
reached_as o p n e h =
    let P : Option ℕ → Type 0 = λ q. IsReached q n in
    subst P (sym e) h

pub reached_least : (m : ℕ) (o : Option ℕ) (n : ℕ) → m ≤ n → IsReached (least_with m o) n
reached_least m None n le = le
reached_least m (Some k) n le = let least : min m k ≤ n = omega (arith, le) in least

pub reached_more : (m : ℕ) (o : Option ℕ) (n : ℕ) → IsReached o n → IsReached (least_with m o) n
reached_more m None n h = absurd h
reached_more m (Some k) n h =
    let le : k ≤ n = h in
    let least : min m k ≤ n = omega (arith, le) in
    least

-- ---- one booking more, wherever it stands
abbrev pub with_least : Place → ℕ → Booking → Option ℕ → Option ℕ
with_least q c b o = (if is_booking_of q c b then least_with b.seats o else o)

abbrev pub with_seats : Place → ℕ → Booking → ℕ → ℕ
with_seats q c b n = (if is_booking_of q c b then b.seats + n else n)

pub with_swap : (q : Place) (c : ℕ) (a b : Booking) (o : Option ℕ)
    → with_least q c a (with_least q c b o) ≡ with_least q c b (with_least q c a o)
with_swap q c a b o = cases (is_booking_of q c a) (is_booking_of q c b) refl refl where
  cases : (t u : Bool) → is_booking_of q c a ≡ t → is_booking_of q c b ≡ u
      → with_least q c a (with_least q c b o) ≡ with_least q c b (with_least q c a o)
  cases true true e f = rw (e, f) (least_swap a.seats b.seats o)
  cases true false e f = rw (e, f) refl
  cases false u e f = rw e refl

pub seats_swap : (q : Place) (c : ℕ) (a b : Booking) (n : ℕ)
    → with_seats q c a (with_seats q c b n) ≡ with_seats q c b (with_seats q c a n)
seats_swap q c a b n = cases (is_booking_of q c a) (is_booking_of q c b) refl refl where
  cases : (t u : Bool) → is_booking_of q c a ≡ t → is_booking_of q c b ≡ u
      → with_seats q c a (with_seats q c b n) ≡ with_seats q c b (with_seats q c a n)
  cases true true e f = rw (e, f) (omega arith)
  cases true false e f = rw (e, f) refl
  cases false u e f = rw e refl

pub smallest_push : (q : Place) (c : ℕ) (xs : List Booking) (b : Booking)
    → smallest_of q c (xs ++ b ∷ []) ≡ with_least q c b (smallest_of q c xs)
smallest_push q c [] b = refl
smallest_push q c (x ∷ xs) b = ap (with_least q c x) (smallest_push q c xs b) ∙ with_swap q c x b (smallest_of q c xs)

pub seats_push : (q : Place) (c : ℕ) (xs : List Booking) (b : Booking)
    → seats_for q c (xs ++ b ∷ []) ≡ with_seats q c b (seats_for q c xs)
seats_push q c [] b = refl
seats_push q c (x ∷ xs) b = ap (with_seats q c x) (seats_push q c xs b) ∙ seats_swap q c x b (seats_for q c xs)

pub smallest_set : (q : Place) (c : ℕ) (xs : List Booking) (i : ℕ) (b : Booking) → i < length xs
    → smallest_of q c (set xs i b) ≡ with_least q c b (smallest_of q c (remove xs i))
smallest_set q c [] i b h = absurd (omega (arith, h))
smallest_set q c (x ∷ xs) zero b h = refl
smallest_set q c (x ∷ xs) (suc i) b h = ap (with_least q c x) (smallest_set q c xs i b (omega (arith, h))) ∙ with_swap q c x b (smallest_of q c (remove xs i))

pub seats_set : (q : Place) (c : ℕ) (xs : List Booking) (i : ℕ) (b : Booking) → i < length xs
    → seats_for q c (set xs i b) ≡ with_seats q c b (seats_for q c (remove xs i))
seats_set q c [] i b h = absurd (omega (arith, h))
seats_set q c (x ∷ xs) zero b h = refl
seats_set q c (x ∷ xs) (suc i) b h = ap (with_seats q c x) (seats_set q c xs i b (omega (arith, h))) ∙ seats_swap q c x b (seats_for q c (remove xs i))

pub smallest_get : (q : Place) (c : ℕ) (xs : List Booking) (i : ℕ) (b : Booking) → i < length xs → b ≡ get_or xs i b
    → smallest_of q c xs ≡ with_least q c b (smallest_of q c (remove xs i))
smallest_get q c xs i b h is =
    ap (smallest_of q c) (sym (ap (λ (x : Booking). set xs i x) is ∙ set-get_or xs i b)) ∙ smallest_set q c xs i b h

pub seats_get : (q : Place) (c : ℕ) (xs : List Booking) (i : ℕ) (b : Booking) → i < length xs → b ≡ get_or xs i b
    → seats_for q c xs ≡ with_seats q c b (seats_for q c (remove xs i))
seats_get q c xs i b h is =
    ap (seats_for q c) (sym (ap (λ (x : Booking). set xs i x) is ∙ set-get_or xs i b)) ∙ seats_set q c xs i b h

-- the seats of a list are few
pub seats_few : (q : Place) (c : ℕ) (xs : List Booking) → AllByRecursion (λ b. b.seats < 65536) xs
    → seats_for q c xs ≤ length xs * 65536
seats_few q c [] a = omega arith
seats_few q c (b ∷ bs) a = cases (is_booking_of q c b) refl (seats_few q c bs a.1) where
  cases : (t : Bool) → is_booking_of q c b ≡ t → seats_for q c bs ≤ length bs * 65536
      → seats_for q c (b ∷ bs) ≤ length (b ∷ bs) * 65536
  cases true e rest = rw e (omega (arith, rest, a.0))
  cases false e rest = rw e (omega (arith, rest))

pub all_remove : (P : Booking → Type 0) (xs : List Booking) (i : ℕ) → AllByRecursion P xs
    → AllByRecursion P (remove xs i)
all_remove P [] zero a = a
all_remove P [] (suc i) a = a
all_remove P (x ∷ xs) zero a = a.1
all_remove P (x ∷ xs) (suc i) a = (a.0, all_remove P xs i a.1)

pub all_set : (P : Booking → Type 0) (xs : List Booking) (i : ℕ) (b : Booking) → AllByRecursion P xs → P b
    → AllByRecursion P (set xs i b)
all_set P [] i b a h = a
all_set P (x ∷ xs) zero b a h = (h, a.1)
all_set P (x ∷ xs) (suc i) b a h = (a.0, all_set P xs i b a.1 h)

pub all_get : (P : Booking → Type 0) (xs : List Booking) (i : ℕ) (b : Booking) → i < length xs → AllByRecursion P xs
    → P (get_or xs i b)
all_get P [] i b h a = absurd (omega (arith, h))
all_get P (x ∷ xs) zero b h a = a.0
all_get P (x ∷ xs) (suc i) b h a = all_get P xs i b (omega (arith, h)) a.1

-- none are left where there is no least
pub none_left : (q : Place) (c : ℕ) (xs : List Booking) → smallest_of q c xs ≡ None → seats_for q c xs ≡ 0
none_left q c [] e = refl
none_left q c (b ∷ bs) e = cases (is_booking_of q c b) refl e (none_left q c bs) where
  some : (n : ℕ) (o : Option ℕ) → least_with n o ≡ None → seats_for q c (b ∷ bs) ≡ 0
  some n None e = absurd cc
  some n (Some m) e = absurd cc

  cases : (t : Bool) → is_booking_of q c b ≡ t → with_least q c b (smallest_of q c bs) ≡ None
      → (smallest_of q c bs ≡ None → seats_for q c bs ≡ 0) → seats_for q c (b ∷ bs) ≡ 0
  cases true f g rest = some b.seats (smallest_of q c bs) (rw f at g)
  cases false f g rest = rw f (rest (rw f at g))

-- each has at least the least seats of its place and class
least_behind : (q : Place) (c n : ℕ) (x : Booking) (xs : List Booking) → IsReached (smallest_of q c xs) n
    → IsReached (smallest_of q c (x ∷ xs)) n
least_behind q c n x xs h = cases (is_booking_of q c x) refl where
  cases : (t : Bool) → is_booking_of q c x ≡ t → IsReached (smallest_of q c (x ∷ xs)) n
  cases true e = rw e (reached_more x.seats (smallest_of q c xs) n h)
  cases false e = rw e h

pub least_each : (xs : List Booking) → AllByRecursion (λ b. IsReached (smallest_of b.place b.class xs) b.seats) xs
least_each [] = tt
least_each (x ∷ xs) =
    let here : IsReached (smallest_of x.place x.class (x ∷ xs)) x.seats = rw (at_itself x.place x.class) (reached_least x.seats (smallest_of x.place x.class xs) x.seats (omega arith)) in (
      here,
      all_map (λ b. IsReached (smallest_of b.place b.class xs) b.seats) (λ b. IsReached (smallest_of b.place b.class (x ∷ xs)) b.seats) xs
          (λ b h. least_behind b.place b.class b.seats x xs h) (least_each xs),
    )

-- ---- the demands, place by place
pub neither : (t u : Bool) → (t || u) ≡ false → (t ≡ false) × (u ≡ false)
neither true u e = absurd cc
neither false u e = (refl, e)

pub no_seats : (q : Place) (c : ℕ) (ps : List Demand) → list_any (is_demand_of q c) ps ≡ false → demand_seats q c ps ≡ 0
no_seats q c [] e = refl
no_seats q c (p ∷ ps) e =
    let h = neither (is_demand_of q c p) (list_any (is_demand_of q c) ps) e in
    rw (h.0) (no_seats q c ps h.1)

pub no_smallest : (q : Place) (c : ℕ) (ps : List Demand) → list_any (is_demand_of q c) ps ≡ false
    → demand_smallest q c ps ≡ None
no_smallest q c [] e = refl
no_smallest q c (p ∷ ps) e =
    let h = neither (is_demand_of q c p) (list_any (is_demand_of q c) ps) e in
    rw (h.0) (no_smallest q c ps h.1)

-- none but the first of a list is of its place and class
pub apart_rest : (p : Demand) (ps : List Demand) → is_apart (p ∷ ps) ≡ true
    → (list_any (is_demand_of p.place p.class) ps ≡ false) × (is_apart ps ≡ true)
apart_rest p ps e = cases (list_any (is_demand_of p.place p.class) ps) refl e where
  cases : (t : Bool) → list_any (is_demand_of p.place p.class) ps ≡ t
      → (if list_any (is_demand_of p.place p.class) ps then false else is_apart ps) ≡ true
      → (list_any (is_demand_of p.place p.class) ps ≡ false) × (is_apart ps ≡ true)
  cases true f g = let no : false ≡ true = rw f at g in absurd cc
  cases false f g = (f, rw f at g)

-- no demand of one place and class is among those of another list
pub gone_at : (place : Place) (class : ℕ) (p : Demand) (ps : List Demand) → is_demand_of place class p ≡ true
    → list_any (is_demand_of p.place p.class) ps ≡ false → list_any (is_demand_of place class) ps ≡ false
gone_at place class p ps e f =
    let h = at_same place p.place class p.class e in
    let P : Place → Type 0 = λ y. list_any (is_demand_of y p.class) ps ≡ false in
    let Q : ℕ → Type 0 = λ j. list_any (is_demand_of place j) ps ≡ false in
    subst Q h.1 (subst P h.0 f)

-- ---- a booking joins
pub joined_smallest : (place : Place) (class k n : ℕ) (q : Place) (c : ℕ) (ps : List Demand)
    → is_at place class q c ≡ false → demand_smallest q c (joined ps place class k n) ≡ demand_smallest q c ps
joined_smallest place class k n q c [] other = rw (at_turned q place c class ∙ other) refl
joined_smallest place class k n q c (p ∷ ps) other = cases (is_demand_of place class p) (is_demand_of q c p) refl refl (joined_smallest place class k n q c ps other) where
  cases : (t u : Bool) → is_demand_of place class p ≡ t → is_demand_of q c p ≡ u
      → demand_smallest q c (joined ps place class k n) ≡ demand_smallest q c ps
      → demand_smallest q c (joined (p ∷ ps) place class k n) ≡ demand_smallest q c (p ∷ ps)
  cases true u e f rest = let away = at_other place q p.place class c p.class other e in rw e (rw away refl)
  cases false true e f rest = rw (e, f) refl
  cases false false e f rest = rw (e, f) rest

pub joined_seats : (place : Place) (class k n : ℕ) (q : Place) (c : ℕ) (ps : List Demand) → is_at place class q c ≡ false
    → demand_seats q c (joined ps place class k n) ≡ demand_seats q c ps
joined_seats place class k n q c [] other = rw (at_turned q place c class ∙ other) refl
joined_seats place class k n q c (p ∷ ps) other = cases (is_demand_of place class p) (is_demand_of q c p) refl refl (joined_seats place class k n q c ps other) where
  cases : (t u : Bool) → is_demand_of place class p ≡ t → is_demand_of q c p ≡ u
      → demand_seats q c (joined ps place class k n) ≡ demand_seats q c ps
      → demand_seats q c (joined (p ∷ ps) place class k n) ≡ demand_seats q c (p ∷ ps)
  cases true u e f rest = let away = at_other place q p.place class c p.class other e in rw e (rw away refl)
  cases false true e f rest = rw (e, f) refl
  cases false false e f rest = rw (e, f) rest

pub joined_smallest_here : (place : Place) (class k n : ℕ) (ps : List Demand)
    → demand_smallest place class (joined ps place class k n) ≡ least_with n (demand_smallest place class ps)
joined_smallest_here place class k n [] = rw (at_itself place class) refl
joined_smallest_here place class k n (p ∷ ps) = cases (is_demand_of place class p) refl (joined_smallest_here place class k n ps) where
  cases : (t : Bool) → is_demand_of place class p ≡ t
      → demand_smallest place class (joined ps place class k n) ≡ least_with n (demand_smallest place class ps)
      → demand_smallest place class (joined (p ∷ ps) place class k n)
      ≡ least_with n (demand_smallest place class (p ∷ ps))
  cases true e rest = rw e (rw e refl)
  cases false e rest = rw e (rw e rest)

pub joined_seats_here : (place : Place) (class k n : ℕ) (ps : List Demand)
    → demand_seats place class (joined ps place class k n) ≡ n + demand_seats place class ps
joined_seats_here place class k n [] = rw (at_itself place class) (omega arith)
joined_seats_here place class k n (p ∷ ps) = cases (is_demand_of place class p) refl (joined_seats_here place class k n ps) where
  cases : (t : Bool) → is_demand_of place class p ≡ t
      → demand_seats place class (joined ps place class k n) ≡ n + demand_seats place class ps
      → demand_seats place class (joined (p ∷ ps) place class k n) ≡ n + demand_seats place class (p ∷ ps)
  cases true e rest = rw e (rw e (omega arith))
  cases false e rest = rw e (rw e rest)

pub joined_begins : (place : Place) (class k n : ℕ) (q : Place) (c : ℕ) (ps : List Demand)
    → is_at place class q c ≡ false → demand_first q c (joined ps place class k n) ≡ demand_first q c ps
joined_begins place class k n q c [] other = rw (at_turned q place c class ∙ other) refl
joined_begins place class k n q c (p ∷ ps) other = cases (is_demand_of place class p) (is_demand_of q c p) refl refl (joined_begins place class k n q c ps other) where
  cases : (t u : Bool) → is_demand_of place class p ≡ t → is_demand_of q c p ≡ u
      → demand_first q c (joined ps place class k n) ≡ demand_first q c ps
      → demand_first q c (joined (p ∷ ps) place class k n) ≡ demand_first q c (p ∷ ps)
  cases true u e f rest = let away = at_other place q p.place class c p.class other e in rw e (rw away refl)
  cases false true e f rest = rw (e, f) refl
  cases false false e f rest = rw (e, f) rest

pub joined_begins_here : (place : Place) (class k n : ℕ) (ps : List Demand)
    → demand_first place class (joined ps place class k n) ≡ least_with k (demand_first place class ps)
joined_begins_here place class k n [] = rw (at_itself place class) refl
joined_begins_here place class k n (p ∷ ps) = cases (is_demand_of place class p) refl (joined_begins_here place class k n ps) where
  cases : (t : Bool) → is_demand_of place class p ≡ t
      → demand_first place class (joined ps place class k n) ≡ least_with k (demand_first place class ps)
      → demand_first place class (joined (p ∷ ps) place class k n)
      ≡ least_with k (demand_first place class (p ∷ ps))
  cases true e rest = rw e (rw e refl)
  cases false e rest = rw e (rw e rest)

pub joined_nears : (place : Place) (class k n : ℕ) (q : Place) (c : ℕ) (ps : List Demand)
    → is_at place class q c ≡ false → demand_near q c (joined ps place class k n) ≡ demand_near q c ps
joined_nears place class k n q c [] other = rw (at_turned q place c class ∙ other) refl
joined_nears place class k n q c (p ∷ ps) other = cases (is_demand_of place class p) (is_demand_of q c p) refl refl (joined_nears place class k n q c ps other) where
  cases : (t u : Bool) → is_demand_of place class p ≡ t → is_demand_of q c p ≡ u
      → demand_near q c (joined ps place class k n) ≡ demand_near q c ps
      → demand_near q c (joined (p ∷ ps) place class k n) ≡ demand_near q c (p ∷ ps)
  cases true u e f rest = let away = at_other place q p.place class c p.class other e in rw e (rw away refl)
  cases false true e f rest = rw (e, f) refl
  cases false false e f rest = rw (e, f) rest

-- where the smallest of a demand begin, of which these are told, once a booking of number k has n seats
abbrev near_with : ℕ → ℕ → Option ℕ → Option ℕ → Option ℕ
near_with k n None near = Some k
near_with k n (Some s) None = Some k
near_with k n (Some s) (Some m) = Some (if nat_lt n s then k else min k m)

joined_nears_here : (place : Place) (class k n : ℕ) (ps : List Demand)
    → demand_near place class (joined ps place class k n)
    ≡ near_with k n (demand_smallest place class ps) (demand_near place class ps)
joined_nears_here place class k n [] = rw (at_itself place class) refl
joined_nears_here place class k n (p ∷ ps) = cases (is_demand_of place class p) refl (joined_nears_here place class k n ps) where
  cases : (t : Bool) → is_demand_of place class p ≡ t
      → demand_near place class (joined ps place class k n)
      ≡ near_with k n (demand_smallest place class ps) (demand_near place class ps)
      → demand_near place class (joined (p ∷ ps) place class k n)
      ≡ near_with k n (demand_smallest place class (p ∷ ps)) (demand_near place class (p ∷ ps))
  cases true e rest = rw e (rw e refl)
  cases false e rest = rw e (rw e rest)

near_own : (k n : ℕ) (o p : Option ℕ) → IsReached (near_with k n o p) k
near_own k n None p = let le : k ≤ k = omega arith in le
near_own k n (Some s) None = let le : k ≤ k = omega arith in le
near_own k n (Some s) (Some m) = either (nat_lt n s) where
  either : (t : Bool) → IsReached (Some (cond t k (min k m))) k
  either true = let le : k ≤ k = omega arith in le
  either false = let le : min k m ≤ k = omega arith in le

near_other : (k n : ℕ) (o p : Option ℕ) (seats number : ℕ) → (o ≡ Some seats → IsReached p number) → IsReached o seats
    → least_with n o ≡ Some seats → IsReached (near_with k n o p) number
near_other k n None p seats number h le e = absurd le
near_other k n (Some s) p seats number h le e = cases (nat_lt n s) refl p h where
  least : min n s ≡ seats
  least = some_same (min n s) seats e

  most : s ≤ seats
  most = le

  cases : (t : Bool) → nat_lt n s ≡ t → (p : Option ℕ) → (Some s ≡ Some seats → IsReached p number)
      → IsReached (near_with k n (Some s) p) number
  cases true f p h = let lt : n < s = grind (arith, nat_tests) in absurd (omega (arith, lt, least, most))
  cases false f None h =
      let ge : s ≤ n = grind (arith, nat_tests) in
      let same : s ≡ seats = omega (arith, ge, least, most) in
      absurd (h (ap Some same))
  cases false f (Some m) h =
      let ge : s ≤ n = grind (arith, nat_tests) in
      let same : s ≡ seats = omega (arith, ge, least, most) in
      let low : m ≤ number = h (ap Some same) in
      let least_of : min k m ≤ number = omega (arith, low) in
      reached_as (Some (if nat_lt n s then k else min k m)) (Some (min k m)) number (rw f refl) least_of

pub joined_other : (ps : List Demand) (place : Place) (class k n : ℕ) (q : Place) (c : ℕ) → is_at place class q c ≡ false
    → list_any (is_demand_of q c) ps ≡ false → list_any (is_demand_of q c) (joined ps place class k n) ≡ false
joined_other [] place class k n q c other e = rw (at_turned q place c class ∙ other) refl
joined_other (p ∷ ps) place class k n q c other e =
    let h = neither (is_demand_of q c p) (list_any (is_demand_of q c) ps) e in
    cases (is_demand_of place class p) refl h.0 h.1 (joined_other ps place class k n q c other h.1)
  where
    cases : (t : Bool) → is_demand_of place class p ≡ t → is_demand_of q c p ≡ false
        → list_any (is_demand_of q c) ps ≡ false
        → list_any (is_demand_of q c) (joined ps place class k n) ≡ false
        → list_any (is_demand_of q c) (joined (p ∷ ps) place class k n) ≡ false
    cases true e f g rest = rw e (rw (f, g) refl)
    cases false e f g rest = rw e (rw (f, rest) refl)

pub joined_apart : (ps : List Demand) (place : Place) (class k n : ℕ) → is_apart ps ≡ true
    → is_apart (joined ps place class k n) ≡ true
joined_apart [] place class k n e = refl
joined_apart (p ∷ ps) place class k n e = cases (is_demand_of place class p) refl (joined_apart ps place class k n (apart_rest p ps e).1) where
  cases : (t : Bool) → is_demand_of place class p ≡ t → is_apart (joined ps place class k n) ≡ true
      → is_apart (joined (p ∷ ps) place class k n) ≡ true
  cases true f rest = rw f e
  cases false f rest =
      let none = joined_other ps place class k n p.place p.class f (apart_rest p ps e).0 in
      rw f (rw none rest)

pub added : (xs : List Booking) (ps : List Demand) (b : Booking) → IsIndexed xs ps → IsOrdered (xs ++ b ∷ [])
    → is_waiting b.status ≡ true → b.seats < 65536
    → IsIndexed (xs ++ b ∷ []) (joined ps b.place b.class b.number b.seats)
added xs ps b i ordered waits few = record {
  ordered = ordered;
  waits = all_push (λ x. is_waiting x.status ≡ true) xs b i.waits waits;
  small = all_push (λ x. x.seats < 65536) xs b i.small few;
  begins =
      all_push (λ x. IsReached (demand_first x.place x.class (joined ps b.place b.class b.number b.seats)) x.number) xs b
      (all_map (λ x. IsReached (demand_first x.place x.class ps) x.number)
      (λ x. IsReached (demand_first x.place x.class (joined ps b.place b.class b.number b.seats)) x.number) xs
      (λ x h. begins_at x (is_at b.place b.class x.place x.class) refl h) i.begins) here;
  nears =
      all_push (λ x. demand_smallest x.place x.class (joined ps b.place b.class b.number b.seats) ≡ Some x.seats
      → IsReached (demand_near x.place x.class (joined ps b.place b.class b.number b.seats)) x.number) xs b
      (all_both (λ x. demand_smallest x.place x.class ps ≡ Some x.seats → IsReached (demand_near x.place x.class ps) x.number)
      (λ x. IsReached (smallest_of x.place x.class xs) x.seats)
      (λ x. demand_smallest x.place x.class (joined ps b.place b.class b.number b.seats) ≡ Some x.seats
      → IsReached (demand_near x.place x.class (joined ps b.place b.class b.number b.seats)) x.number) xs
      (λ x h s e. nears_at x (is_at b.place b.class x.place x.class) refl h s e) i.nears (least_each xs)) (λ e. near_here);
  apart = joined_apart ps b.place b.class b.number b.seats i.apart;
  smallest = λ q c. smallest_cases q c (is_at b.place b.class q c) refl;
  seats = λ q c. seats_cases q c (is_at b.place b.class q c) refl;
} where
  here : IsReached (demand_first b.place b.class (joined ps b.place b.class b.number b.seats)) b.number
  here =
      reached_as (demand_first b.place b.class (joined ps b.place b.class b.number b.seats)) (least_with b.number (demand_first b.place b.class ps)) b.number
      (joined_begins_here b.place b.class b.number b.seats ps)
      (reached_least b.number (demand_first b.place b.class ps) b.number (omega arith))

  begins_at : (x : Booking) (t : Bool) → is_at b.place b.class x.place x.class ≡ t
      → IsReached (demand_first x.place x.class ps) x.number
      → IsReached (demand_first x.place x.class (joined ps b.place b.class b.number b.seats)) x.number
  begins_at x true e h =
      let at = at_same b.place x.place b.class x.class e in
      let R : Place → ℕ → Type 0 = λ y j. IsReached (demand_first y j ps) x.number → IsReached (demand_first y j (joined ps b.place b.class b.number b.seats)) x.number in
      let same : R b.place b.class =
      λ g. reached_as (demand_first b.place b.class (joined ps b.place b.class b.number b.seats)) (least_with b.number (demand_first b.place b.class ps)) x.number
      (joined_begins_here b.place b.class b.number b.seats ps)
      (reached_more b.number (demand_first b.place b.class ps) x.number g) in
      let S : Place → Type 0 = λ y. R y b.class in
      let T : ℕ → Type 0 = λ j. R x.place j in
      subst T (sym at.1) (subst S (sym at.0) same) h
  begins_at x false e h =
      reached_as (demand_first x.place x.class (joined ps b.place b.class b.number b.seats)) (demand_first x.place x.class ps) x.number
      (joined_begins b.place b.class b.number b.seats x.place x.class ps e) h

  near_here : IsReached (demand_near b.place b.class (joined ps b.place b.class b.number b.seats)) b.number
  near_here =
      reached_as (demand_near b.place b.class (joined ps b.place b.class b.number b.seats))
      (near_with b.number b.seats (demand_smallest b.place b.class ps) (demand_near b.place b.class ps)) b.number
      (joined_nears_here b.place b.class b.number b.seats ps)
      (near_own b.number b.seats (demand_smallest b.place b.class ps) (demand_near b.place b.class ps))

  nears_at : (x : Booking) (t : Bool) → is_at b.place b.class x.place x.class ≡ t
      → (demand_smallest x.place x.class ps ≡ Some x.seats → IsReached (demand_near x.place x.class ps) x.number)
      → IsReached (smallest_of x.place x.class xs) x.seats
      → demand_smallest x.place x.class (joined ps b.place b.class b.number b.seats) ≡ Some x.seats
      → IsReached (demand_near x.place x.class (joined ps b.place b.class b.number b.seats)) x.number
  nears_at x true e h s t =
      let at = at_same b.place x.place b.class x.class e in
      let R : Place → ℕ → Type 0 = λ y j. (demand_smallest y j ps ≡ Some x.seats → IsReached (demand_near y j ps) x.number)
      → IsReached (smallest_of y j xs) x.seats
      → demand_smallest y j (joined ps b.place b.class b.number b.seats) ≡ Some x.seats
      → IsReached (demand_near y j (joined ps b.place b.class b.number b.seats)) x.number in
      let same : R b.place b.class =
      λ g l f. reached_as (demand_near b.place b.class (joined ps b.place b.class b.number b.seats))
      (near_with b.number b.seats (demand_smallest b.place b.class ps) (demand_near b.place b.class ps)) x.number
      (joined_nears_here b.place b.class b.number b.seats ps)
      (near_other b.number b.seats (demand_smallest b.place b.class ps) (demand_near b.place b.class ps) x.seats x.number g
      (reached_as (demand_smallest b.place b.class ps) (smallest_of b.place b.class xs) x.seats (i.smallest b.place b.class) l)
      (sym (joined_smallest_here b.place b.class b.number b.seats ps) ∙ f)) in
      let S : Place → Type 0 = λ y. R y b.class in
      let T : ℕ → Type 0 = λ j. R x.place j in
      subst T (sym at.1) (subst S (sym at.0) same) h s t
  nears_at x false e h s t =
      reached_as (demand_near x.place x.class (joined ps b.place b.class b.number b.seats)) (demand_near x.place x.class ps) x.number
      (joined_nears b.place b.class b.number b.seats x.place x.class ps e)
      (h (sym (joined_smallest b.place b.class b.number b.seats x.place x.class ps e) ∙ t))

  smallest_cases : (q : Place) (c : ℕ) (t : Bool) → is_at b.place b.class q c ≡ t
      → demand_smallest q c (joined ps b.place b.class b.number b.seats) ≡ smallest_of q c (xs ++ b ∷ [])
  smallest_cases q c true e =
      let h = at_same b.place q b.class c e in
      let P : Place → ℕ → Type 0 = λ y j. demand_smallest y j (joined ps b.place b.class b.number b.seats) ≡ smallest_of y j (xs ++ b ∷ []) in
      let here : P b.place b.class =
      joined_smallest_here b.place b.class b.number b.seats ps
      ∙ (ap (least_with b.seats) (i.smallest b.place b.class)
      ∙ sym (smallest_push b.place b.class xs b ∙ rw (at_itself b.place b.class) refl)) in
      let Q : Place → Type 0 = λ y. P y b.class in
      let R : ℕ → Type 0 = λ j. P q j in
      subst R (sym h.1) (subst Q (sym h.0) here)
  smallest_cases q c false e =
      joined_smallest b.place b.class b.number b.seats q c ps e
      ∙ (i.smallest q c ∙ sym (smallest_push q c xs b ∙ rw (at_turned q b.place c b.class ∙ e) refl))

  seats_cases : (q : Place) (c : ℕ) (t : Bool) → is_at b.place b.class q c ≡ t
      → demand_seats q c (joined ps b.place b.class b.number b.seats) ≡ seats_for q c (xs ++ b ∷ [])
  seats_cases q c true e =
      let h = at_same b.place q b.class c e in
      let P : Place → ℕ → Type 0 = λ y j. demand_seats y j (joined ps b.place b.class b.number b.seats) ≡ seats_for y j (xs ++ b ∷ []) in
      let here : P b.place b.class =
      joined_seats_here b.place b.class b.number b.seats ps
      ∙ (ap (λ n. b.seats + n) (i.seats b.place b.class)
      ∙ sym (seats_push b.place b.class xs b ∙ rw (at_itself b.place b.class) refl)) in
      let Q : Place → Type 0 = λ y. P y b.class in
      let R : ℕ → Type 0 = λ j. P q j in
      subst R (sym h.1) (subst Q (sym h.0) here)
  seats_cases q c false e =
      joined_seats b.place b.class b.number b.seats q c ps e
      ∙ (i.seats q c ∙ sym (seats_push q c xs b ∙ rw (at_turned q b.place c b.class ∙ e) refl))
