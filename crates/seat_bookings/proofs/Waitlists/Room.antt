-- What the demands answer is what the bookings answer.
use Rattle.std.proofs.Common.{◌≡◌, ◌==◌, ◌&&◌, ℕ, ◌+◌, Bool, true, false, List, [], ◌∷◌, Option, Some, None, if◌then◌else◌, arith, refl, sym, subst, ap, ◌∙◌}
use Rattle.seat_bookings.proofs.Common.{AllByRecursion, Place, Booking, Demand, is_waiting, is_at, is_demand_of, is_booking_of, is_apart, least_with, smallest_of, seats_for, demand_smallest, demand_seats, IsIndexed}
use Rattle.std.proofs.lemmas.List.Sums.{sum_by-cons}
use Rattle.seat_nesting.specs.Nesting.{Ladders, may_wait, covers}
use Rattle.seat_rules.specs.declared.booking.Status.{Status}
use Rattle.seat_rules.specs.declared.booking.Status.TheVariants.{Held, Waiting}
use Rattle.seat_rules.specs.Bookings.{waits_on, waiting}
use Rattle.seat_bookings.specs.Demands.{waits_of}
use Rattle.seat_rules.proofs.Flight.View.{may_wait_same}
use Rattle.seat_bookings.proofs.Waitlists.Index.{at_itself, at_turned, at_same, at_other, apart_rest, no_seats, no_smallest}

-- the bookings of all other places and classes
abbrev others : Place → ℕ → List Booking → List Booking
others q c [] = []
others q c (b ∷ bs) = (if is_booking_of q c b then others q c bs else b ∷ others q c bs)

-- the demands tell what the bookings ask for
record Tells (xs : List Booking) (ps : List Demand) : Type 0 where
  apart : is_apart ps ≡ true
  smallest : (place : Place) (class : ℕ) → demand_smallest place class ps ≡ smallest_of place class xs
  seats : (place : Place) (class : ℕ) → demand_seats place class ps ≡ seats_for place class xs

-- ---- without those of one place and class
all_others : (P : Booking → Type 0) (q : Place) (c : ℕ) (xs : List Booking) → AllByRecursion P xs
    → AllByRecursion P (others q c xs)
all_others P q c [] a = tt
all_others P q c (b ∷ bs) a = cases (is_booking_of q c b) refl (all_others P q c bs a.1) where
  cases : (t : Bool) → is_booking_of q c b ≡ t → AllByRecursion P (others q c bs)
      → AllByRecursion P (others q c (b ∷ bs))
  cases true e rest = rw e rest
  cases false e rest = rw e (a.0, rest)

smallest_none : (q : Place) (c : ℕ) (xs : List Booking) → smallest_of q c (others q c xs) ≡ None
smallest_none q c [] = refl
smallest_none q c (b ∷ bs) = cases (is_booking_of q c b) refl (smallest_none q c bs) where
  cases : (t : Bool) → is_booking_of q c b ≡ t → smallest_of q c (others q c bs) ≡ None
      → smallest_of q c (others q c (b ∷ bs)) ≡ None
  cases true e rest = rw e rest
  cases false e rest = rw e (rw e rest)

seats_none : (q : Place) (c : ℕ) (xs : List Booking) → seats_for q c (others q c xs) ≡ 0
seats_none q c [] = refl
seats_none q c (b ∷ bs) = cases (is_booking_of q c b) refl (seats_none q c bs) where
  cases : (t : Bool) → is_booking_of q c b ≡ t → seats_for q c (others q c bs) ≡ 0
      → seats_for q c (others q c (b ∷ bs)) ≡ 0
  cases true e rest = rw e rest
  cases false e rest = rw e (rw e rest)

smallest_kept : (q : Place) (c : ℕ) (y : Place) (j : ℕ) (xs : List Booking) → is_at q c y j ≡ false
    → smallest_of y j (others q c xs) ≡ smallest_of y j xs
smallest_kept q c y j [] other = refl
smallest_kept q c y j (b ∷ bs) other = cases (is_booking_of q c b) (is_booking_of y j b) refl refl (smallest_kept q c y j bs other) where
  cases : (t u : Bool) → is_booking_of q c b ≡ t → is_booking_of y j b ≡ u
      → smallest_of y j (others q c bs) ≡ smallest_of y j bs
      → smallest_of y j (others q c (b ∷ bs)) ≡ smallest_of y j (b ∷ bs)
  cases true u e f rest = let away = at_other q y b.place c j b.class other e in rw e (rw away rest)
  cases false true e f rest = rw e (rw f (ap (least_with b.seats) rest))
  cases false false e f rest = rw e (rw f rest)

seats_kept : (q : Place) (c : ℕ) (y : Place) (j : ℕ) (xs : List Booking) → is_at q c y j ≡ false
    → seats_for y j (others q c xs) ≡ seats_for y j xs
seats_kept q c y j [] other = refl
seats_kept q c y j (b ∷ bs) other = cases (is_booking_of q c b) (is_booking_of y j b) refl refl (seats_kept q c y j bs other) where
  cases : (t u : Bool) → is_booking_of q c b ≡ t → is_booking_of y j b ≡ u
      → seats_for y j (others q c bs) ≡ seats_for y j bs → seats_for y j (others q c (b ∷ bs)) ≡ seats_for y j (b ∷ bs)
  cases true u e f rest = let away = at_other q y b.place c j b.class other e in rw e (rw away rest)
  cases false true e f rest = rw e (rw f (ap (λ n. b.seats + n) rest))
  cases false false e f rest = rw e (rw f rest)

-- the first demand told of its bookings, the rest tell of the others
rest_tells : (xs : List Booking) (p : Demand) (ps : List Demand) → Tells xs (p ∷ ps)
    → Tells (others p.place p.class xs) ps
rest_tells xs p ps t = record {
  apart = (apart_rest p ps t.apart).1;
  smallest = λ y j. smallest_cases y j (is_at p.place p.class y j) refl;
  seats = λ y j. seats_cases y j (is_at p.place p.class y j) refl;
} where
  smallest_cases : (y : Place) (j : ℕ) (u : Bool) → is_at p.place p.class y j ≡ u
      → demand_smallest y j ps ≡ smallest_of y j (others p.place p.class xs)
  smallest_cases y j true e =
      let h = at_same p.place y p.class j e in
      let P : Place → ℕ → Type 0 = λ z i. demand_smallest z i ps ≡ smallest_of z i (others p.place p.class xs) in
      let here : P p.place p.class = no_smallest p.place p.class ps (apart_rest p ps t.apart).0 ∙ sym (smallest_none p.place p.class xs) in
      let Q : Place → Type 0 = λ z. P z p.class in
      let R : ℕ → Type 0 = λ i. P y i in
      subst R (sym h.1) (subst Q (sym h.0) here)
  smallest_cases y j false e =
      let away : is_demand_of y j p ≡ false = at_turned y p.place j p.class ∙ e in
      let skip : demand_smallest y j (p ∷ ps) ≡ demand_smallest y j ps = rw away refl in
      sym skip ∙ (t.smallest y j ∙ sym (smallest_kept p.place p.class y j xs e))

  seats_cases : (y : Place) (j : ℕ) (u : Bool) → is_at p.place p.class y j ≡ u
      → demand_seats y j ps ≡ seats_for y j (others p.place p.class xs)
  seats_cases y j true e =
      let h = at_same p.place y p.class j e in
      let P : Place → ℕ → Type 0 = λ z i. demand_seats z i ps ≡ seats_for z i (others p.place p.class xs) in
      let here : P p.place p.class = no_seats p.place p.class ps (apart_rest p ps t.apart).0 ∙ sym (seats_none p.place p.class xs) in
      let Q : Place → Type 0 = λ z. P z p.class in
      let R : ℕ → Type 0 = λ i. P y i in
      subst R (sym h.1) (subst Q (sym h.0) here)
  seats_cases y j false e =
      let away : is_demand_of y j p ≡ false = at_turned y p.place j p.class ∙ e in
      let skip : demand_seats y j (p ∷ ps) ≡ demand_seats y j ps = rw away refl in
      sym skip ∙ (t.seats y j ∙ sym (seats_kept p.place p.class y j xs e))

first_seats : (p : Demand) (ps : List Demand) → demand_seats p.place p.class (p ∷ ps) ≡ p.seats
first_seats p ps = rw (at_itself p.place p.class) refl

-- no demand, no booking
none_told : (xs : List Booking) → ((q : Place) (c : ℕ) → None ≡ smallest_of q c xs) → xs ≡ []
none_told [] h = refl
none_told (b ∷ bs) h = some (smallest_of b.place b.class bs) (h b.place b.class ∙ rw (at_itself b.place b.class) refl) where
  some : (o : Option ℕ) → None ≡ least_with b.seats o → b ∷ bs ≡ []
  some None e = absurd cc
  some (Some m) e = absurd cc

-- ---- seats that wait
waits_all : (f l k : ℕ) (b : Booking) (s : Status) → b.status ≡ s → is_waiting s ≡ true
    → waits_on f l k b ≡ (if covers f l b.place && (b.class == k) then b.seats else 0)
waits_all f l k b Held e h = absurd cc
waits_all f l k b Waiting e h = rw e refl

-- the seats of one place and class, where the leg is covered
abbrev share : ℕ → ℕ → ℕ → Place → ℕ → ℕ → ℕ
share f l k q c n = (if covers f l q && (c == k) then n else 0)

share_sum : (f l k : ℕ) (q : Place) (c m n : ℕ) → share f l k q c (m + n) ≡ share f l k q c m + share f l k q c n
share_sum f l k q c m n = cases (covers f l q && (c == k)) refl where
  cases : (t : Bool) → (covers f l q && (c == k)) ≡ t → share f l k q c (m + n) ≡ share f l k q c m + share f l k q c n
  cases true e = rw e refl
  cases false e = rw e refl

share_none : (f l k : ℕ) (q : Place) (c : ℕ) → share f l k q c 0 ≡ 0
share_none f l k q c = cases (covers f l q && (c == k)) refl where
  cases : (t : Bool) → (covers f l q && (c == k)) ≡ t → share f l k q c 0 ≡ 0
  cases true e = rw e refl
  cases false e = rw e refl

share_at : (f l k : ℕ) (q : Place) (c : ℕ) (b : Booking) → is_booking_of q c b ≡ true
    → share f l k b.place b.class b.seats ≡ share f l k q c b.seats
share_at f l k q c b e =
    let h = at_same q b.place c b.class e in
    ap (λ (y : Place). share f l k y b.class b.seats) h.0 ∙ ap (λ (j : ℕ). share f l k q j b.seats) h.1

waiting_parts : (f l k : ℕ) (q : Place) (c : ℕ) (xs : List Booking)
    → AllByRecursion (λ b. is_waiting b.status ≡ true) xs
    → waiting xs f l k ≡ share f l k q c (seats_for q c xs) + waiting (others q c xs) f l k
waiting_parts f l k q c [] a = omega (arith, share_none f l k q c)
waiting_parts f l k q c (b ∷ bs) a = cases (is_booking_of q c b) refl (waiting_parts f l k q c bs a.1) where
  one : waits_on f l k b ≡ share f l k b.place b.class b.seats
  one = waits_all f l k b b.status refl a.0

  cases : (t : Bool) → is_booking_of q c b ≡ t
      → waiting bs f l k ≡ share f l k q c (seats_for q c bs) + waiting (others q c bs) f l k
      → waiting (b ∷ bs) f l k ≡ share f l k q c (seats_for q c (b ∷ bs)) + waiting (others q c (b ∷ bs)) f l k
  cases true e rest =
      rw e (omega (arith, sum_by-cons (waits_on f l k) b bs, one, share_at f l k q c b e, rest, share_sum f l k q c b.seats (seats_for q c bs)))
  cases false e rest =
      rw e (omega (arith, sum_by-cons (waits_on f l k) b bs, sum_by-cons (waits_on f l k) b (others q c bs), rest))

waits_told : (f l k : ℕ) (ps : List Demand) (xs : List Booking) → AllByRecursion (λ b. is_waiting b.status ≡ true) xs
    → Tells xs ps → waits_of ps f l k ≡ waiting xs f l k
waits_told f l k [] xs a t = sym (ap (λ (ys : List Booking). waiting ys f l k) (none_told xs t.smallest))
waits_told f l k (p ∷ ps) xs a t =
    let rest = waits_told f l k ps (others p.place p.class xs) (all_others (λ b. is_waiting b.status ≡ true) p.place p.class xs a) (rest_tells xs p ps t) in
    let own : p.seats ≡ seats_for p.place p.class xs = sym (first_seats p ps) ∙ t.seats p.place p.class in
    let part : share f l k p.place p.class p.seats ≡ share f l k p.place p.class (seats_for p.place p.class xs) = ap (share f l k p.place p.class) own in
    omega (arith, part, rest, waiting_parts f l k p.place p.class xs a)

tells : (xs : List Booking) (ps : List Demand) → IsIndexed xs ps → Tells xs ps
tells xs ps i = record { apart = i.apart; smallest = i.smallest; seats = i.seats }

pub may_wait_told : (grid : Ladders) (xs : List Booking) (ps : List Demand) (p : Place) (class n : ℕ) → IsIndexed xs ps
    → may_wait grid (waits_of ps) p class n ≡ may_wait grid (waiting xs) p class n
may_wait_told grid xs ps p class n i =
    may_wait_same grid (waits_of ps) (waiting xs) p class n (λ l. waits_told p.flight l class ps xs i.waits (tells xs ps i))
