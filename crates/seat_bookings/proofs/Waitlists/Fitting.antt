-- Which waiting booking fits, and what passes over most of them.
use Rattle.std.proofs.Common.{◌≡◌, ◌&&◌, ℕ, zero, suc, ◌+◌, ◌<◌, ◌≤◌, Bool, true, false, min, max, ◌-◌, nat_le, nat_lt, List, [], ◌∷◌, length, get_or, drop, position, Option, Some, None, cond, arith, refl, ap, sym, subst, ◌∙◌}
use Rattle.seat_bookings.proofs.Common.{AllByRecursion, Place, Booking, Demand, is_demand_of, is_booking_of, least_with, smallest_of, demand_smallest, IsIndexed}
use Rattle.std.specs.List.{position_or_len, prefix_len}
use Rattle.std.proofs.lemmas.Bool.Decides.{nat_tests}
use Rattle.seat_nesting.specs.Nesting.{Ladders, Table, room}
use Rattle.seat_nesting.proofs.Rooms.{drop_first}
use Rattle.seat_rules.proofs.Passes.Quiet.{all_map}
use Rattle.seat_bookings.specs.Demands.{demand_first, demand_near, first_fitting, first_with, start_of, IsReached}
use Rattle.seat_bookings.specs.Fitting.{most_of, IsMost, IsMostFor}
use Rattle.seat_bookings.specs.Queues.{fits, next_fit}
use Rattle.seat_bookings.proofs.Live.Order.{absent_nowhere}
use Rattle.seat_bookings.proofs.Waitlists.Index.{all_both, at_itself, at_same, least_each, reached_as, reached_least, reached_more, some_same}
use Rattle.seat_bookings.proofs.Waitlists.Reaching.{further, reach_further}

-- ---- behind an index
pub all_drop : (P : Booking → Type 0) (xs : List Booking) (k : ℕ) → AllByRecursion P xs → AllByRecursion P (drop k xs)
all_drop P xs zero a = a
all_drop P [] (suc k) a = a
all_drop P (x ∷ xs) (suc k) a = all_drop P xs k a.1

-- ---- where the demands that fit begin
reached_either : (u : Bool) (o p : Option ℕ) (n : ℕ) → (u ≡ true → IsReached o n) → (u ≡ false → IsReached p n)
    → IsReached (cond u o p) n
reached_either true o p n f g = f refl
reached_either false o p n f g = g refl

-- a booking of a demand that fits is not before them
fit_first : (grid : Ladders) (t : Table) (q : Place) (c m seats n : ℕ) (ps : List Demand)
    → demand_smallest q c ps ≡ Some m → m ≤ seats → seats ≤ room grid t q c → IsReached (demand_first q c ps) n
    → (m ≡ seats → IsReached (demand_near q c ps) n) → IsReached (first_fitting grid t ps) n
fit_first grid t q c m seats n [] e le fit low near = absurd cc
fit_first grid t q c m seats n (p ∷ ps) e le fit low near =
    cases (is_demand_of q c p) refl e low near (λ f l h. fit_first grid t q c m seats n ps f le fit l h)
  where
    cases : (u : Bool) → is_demand_of q c p ≡ u → cond u (Some p.smallest) (demand_smallest q c ps) ≡ Some m
        → IsReached (cond u (Some p.first) (demand_first q c ps)) n
        → (m ≡ seats → IsReached (cond u (Some p.near) (demand_near q c ps)) n)
        → (demand_smallest q c ps ≡ Some m → IsReached (demand_first q c ps) n
        → (m ≡ seats → IsReached (demand_near q c ps) n) → IsReached (first_fitting grid t ps) n)
        → IsReached (first_fitting grid t (p ∷ ps)) n
    cases true f g l h rest =
        let at = at_same q p.place c p.class f in
        let P : Place → Type 0 = λ y. seats ≤ room grid t y c in
        let Q : ℕ → Type 0 = λ j. seats ≤ room grid t p.place j in
        let here : seats ≤ room grid t p.place p.class = subst Q (sym at.1) (subst P (sym at.0) fit) in
        let small : p.smallest ≡ m = some_same p.smallest m g in
        let enough : p.smallest ≤ room grid t p.place p.class = omega (arith, small, le, here) in
        let yes : nat_le p.smallest (room grid t p.place p.class) ≡ true = grind (arith, nat_tests) in
        reached_either (nat_le p.smallest (room grid t p.place p.class))
        (least_with (start_of p (room grid t p.place p.class)) (first_fitting grid t ps)) (first_fitting grid t ps) n
        (λ e. reached_least (start_of p (room grid t p.place p.class)) (first_fitting grid t ps) n
        (start_at (room grid t p.place p.class) small here (nat_le (room grid t p.place p.class) p.smallest) refl))
        (λ e. let no : true ≡ false = sym yes ∙ e in absurd cc)
      where
        start_at : (left : ℕ) → p.smallest ≡ m → seats ≤ left → (u : Bool) → nat_le left p.smallest ≡ u
            → cond u p.near p.first ≤ n
        start_at left small fits true k =
            let most : left ≤ p.smallest = grind (arith, nat_tests) in
            let same : m ≡ seats = omega (arith, most, small, fits, le) in
            h same
        start_at left small fits false k = l
    cases false f g l h rest =
        reached_either (nat_le p.smallest (room grid t p.place p.class))
        (least_with (start_of p (room grid t p.place p.class)) (first_fitting grid t ps)) (first_fitting grid t ps) n
        (λ e. reached_more (start_of p (room grid t p.place p.class)) (first_fitting grid t ps) n (rest g l h)) (λ e. rest g l h)

fits_from : (grid : Ladders) (t : Table) (xs : List Booking) (ps : List Demand) → IsIndexed xs ps
    → AllByRecursion (λ b. fits grid t b ≡ true → IsReached (first_fitting grid t ps) b.number) xs
fits_from grid t xs ps i =
    all_both (λ b. IsReached (smallest_of b.place b.class xs) b.seats × IsReached (demand_first b.place b.class ps) b.number)
    (λ b. demand_smallest b.place b.class ps ≡ Some b.seats → IsReached (demand_near b.place b.class ps) b.number)
    (λ b. fits grid t b ≡ true → IsReached (first_fitting grid t ps) b.number) xs
    (λ b s h e. one b (smallest_of b.place b.class xs) refl s.0 s.1 h e)
    (all_both (λ b. IsReached (smallest_of b.place b.class xs) b.seats) (λ b. IsReached (demand_first b.place b.class ps) b.number)
    (λ b. IsReached (smallest_of b.place b.class xs) b.seats × IsReached (demand_first b.place b.class ps) b.number) xs
    (λ b s l. (s, l)) (least_each xs) i.begins) i.nears
  where
    one : (b : Booking) (o : Option ℕ) → smallest_of b.place b.class xs ≡ o → IsReached o b.seats
        → IsReached (demand_first b.place b.class ps) b.number
        → (demand_smallest b.place b.class ps ≡ Some b.seats → IsReached (demand_near b.place b.class ps) b.number)
        → fits grid t b ≡ true → IsReached (first_fitting grid t ps) b.number
    one b None f s l h e = absurd s
    one b (Some m) f s l h e =
        let small : m ≤ b.seats = s in
        let le : b.seats ≤ room grid t b.place b.class = grind (arith, nat_tests) in
        let there : demand_smallest b.place b.class ps ≡ Some m = i.smallest b.place b.class ∙ f in
        fit_first grid t b.place b.class m b.seats b.number ps there small le l (λ same. h (there ∙ ap Some same))

-- where no demand fits
pub none_next : (grid : Ladders) (t : Table) (xs : List Booking) (ps : List Demand) (from : ℕ) → IsIndexed xs ps
    → None ≡ first_fitting grid t ps → None ≡ next_fit grid t xs from
none_next grid t xs ps from i none =
    sym (absent_nowhere (fits grid t) (drop from xs)
    (all_drop (λ b. fits grid t b ≡ false) xs from
    (all_map (λ b. fits grid t b ≡ true → IsReached (first_fitting grid t ps) b.number) (λ b. fits grid t b ≡ false) xs
    (λ b h. over b (fits grid t b) refl h) (fits_from grid t xs ps i))))
  where
    over : (b : Booking) (u : Bool) → fits grid t b ≡ u
        → (fits grid t b ≡ true → IsReached (first_fitting grid t ps) b.number) → fits grid t b ≡ false
    over b true e h = absurd (reached_as None (first_fitting grid t ps) b.number none (h e))
    over b false e h = e

-- those before the first of them do not fit
over_below : (grid : Ladders) (t : Table) (xs : List Booking) (ps : List Demand) (first : ℕ) → IsIndexed xs ps
    → Some first ≡ first_fitting grid t ps
    → AllByRecursion (λ b. nat_lt b.number first ≡ true → fits grid t b ≡ false) xs
over_below grid t xs ps first i some =
    all_map (λ b. fits grid t b ≡ true → IsReached (first_fitting grid t ps) b.number)
    (λ b. nat_lt b.number first ≡ true → fits grid t b ≡ false) xs
    (λ b h low. over b (fits grid t b) refl h low) (fits_from grid t xs ps i)
  where
    over : (b : Booking) (u : Bool) → fits grid t b ≡ u
        → (fits grid t b ≡ true → IsReached (first_fitting grid t ps) b.number) → nat_lt b.number first ≡ true
        → fits grid t b ≡ false
    over b true e h low =
        let le : first ≤ b.number = reached_as (Some first) (first_fitting grid t ps) b.number some (h e) in
        let lt : b.number < first = grind (arith, nat_tests) in
        absurd (omega (arith, le, lt))
    over b false e h low = e

next_from : (grid : Ladders) (t : Table) (xs : List Booking) (ps : List Demand) (from first reached start : ℕ)
    → IsIndexed xs ps → Some first ≡ first_fitting grid t ps → from ≤ length xs
    → reached ≡ prefix_len (λ (b : Booking). nat_lt b.number first) xs → start ≡ max from reached
    → next_fit grid t xs from ≡ further (start - from) (next_fit grid t xs start)
next_from grid t xs ps from first reached start i some within is at =
    reach_further (λ (b : Booking). nat_lt b.number first) (fits grid t) xs from reached start within is at (over_below grid t xs ps first i some)

pub next_further : (grid : Ladders) (t : Table) (xs : List Booking) (ps : List Demand) (from first reached start k n : ℕ)
    → IsIndexed xs ps → Some first ≡ first_fitting grid t ps → from ≤ length xs
    → reached ≡ prefix_len (λ (b : Booking). nat_lt b.number first) xs → start ≡ max from reached
    → Some k ≡ next_fit grid t xs start → n ≡ start - from + k → Some n ≡ next_fit grid t xs from
next_further grid t xs ps from first reached start k n i some within is at found told =
    ap Some told ∙ (ap (further (start - from)) found ∙ sym (next_from grid t xs ps from first reached start i some within is at))

pub next_nowhere : (grid : Ladders) (t : Table) (xs : List Booking) (ps : List Demand) (from first reached start : ℕ)
    → IsIndexed xs ps → Some first ≡ first_fitting grid t ps → from ≤ length xs
    → reached ≡ prefix_len (λ (b : Booking). nat_lt b.number first) xs → start ≡ max from reached
    → None ≡ next_fit grid t xs start → None ≡ next_fit grid t xs from
next_nowhere grid t xs ps from first reached start i some within is at none =
    ap (further (start - from)) none ∙ sym (next_from grid t xs ps from first reached start i some within is at)

-- the next demand
pub first_next : (grid : Ladders) (t : Table) (ps : List Demand) (i j : ℕ) (p : Demand) (left : ℕ) (old new : Option ℕ)
    → old ≡ first_fitting grid t (drop j ps) → j ≡ i + 1 → i < length ps → p ≡ get_or ps i p
    → left ≡ room grid t p.place p.class → new ≡ first_with p left old → new ≡ first_fitting grid t (drop i ps)
first_next grid t ps i j p left old new so next lt is finds gives =
    gives
    ∙ (ap (λ (n : ℕ). first_with p n old) finds
    ∙ (ap (first_with p (room grid t p.place p.class)) so
    ∙ ap (first_fitting grid t) (sym (drop_first ps i j p next lt is))))

-- ---- the most room of a class
pub most_none : (grid : Ladders) (t : Table) (most : List ℕ) (ps : List Demand) (n : ℕ) → length ps ≤ n
    → IsMost grid t most (drop n ps)
most_none grid t most ps n le = record { each = none ps n le } where
  none : (ps : List Demand) (n : ℕ) → length ps ≤ n
      → AllByRecursion (λ p. room grid t p.place p.class ≤ most_of most p.class) (drop n ps)
  none [] zero h = tt
  none [] (suc n) h = tt
  none (p ∷ ps) zero h = absurd (omega (arith, h))
  none (p ∷ ps) (suc n) h = none ps n (omega (arith, h))

most_raised : (grid : Ladders) (t : Table) (old new : List ℕ) (ps : List Demand)
    → ((c : ℕ) → most_of old c ≤ most_of new c)
    → AllByRecursion (λ p. room grid t p.place p.class ≤ most_of old p.class) ps
    → AllByRecursion (λ p. room grid t p.place p.class ≤ most_of new p.class) ps
most_raised grid t old new [] more a = tt
most_raised grid t old new (p ∷ ps) more a = (omega (arith, a.0, more p.class), most_raised grid t old new ps more a.1)

pub most_next : (grid : Ladders) (t : Table) (old new : List ℕ) (ps : List Demand) (i j : ℕ) (p : Demand)
    → IsMost grid t old (drop j ps) → j ≡ i + 1 → i < length ps → p ≡ get_or ps i p
    → ((c : ℕ) → most_of old c ≤ most_of new c) → room grid t p.place p.class ≤ most_of new p.class
    → IsMost grid t new (drop i ps)
most_next grid t old new ps i j p h next lt is more here =
    let P : List Demand → Type 0 = λ xs. AllByRecursion (λ p. room grid t p.place p.class ≤ most_of new p.class) xs in
    record { each = subst P (sym (drop_first ps i j p next lt is)) (here, most_raised grid t old new (drop j ps) more h.each) }

-- each booking has a demand
abbrev has : Option ℕ → Type 0
has o = (m : ℕ) × (o ≡ Some m)

has_more : (n : ℕ) (o : Option ℕ) → has (least_with n o)
has_more n None = (n, refl)
has_more n (Some k) = (min n k, refl)

has_behind : (q : Place) (c : ℕ) (x : Booking) (xs : List Booking) → has (smallest_of q c xs)
    → has (smallest_of q c (x ∷ xs))
has_behind q c x xs h = cases (is_booking_of q c x) refl where
  cases : (u : Bool) → is_booking_of q c x ≡ u → has (smallest_of q c (x ∷ xs))
  cases true e = rw e (has_more x.seats (smallest_of q c xs))
  cases false e = rw e h

has_each : (xs : List Booking) → AllByRecursion (λ b. has (smallest_of b.place b.class xs)) xs
has_each [] = tt
has_each (x ∷ xs) =
    let here : has (smallest_of x.place x.class (x ∷ xs)) = rw (at_itself x.place x.class) (has_more x.seats (smallest_of x.place x.class xs)) in (
      here,
      all_map (λ b. has (smallest_of b.place b.class xs)) (λ b. has (smallest_of b.place b.class (x ∷ xs))) xs
          (λ b h. has_behind b.place b.class x xs h) (has_each xs),
    )

room_most : (grid : Ladders) (t : Table) (most : List ℕ) (q : Place) (c m : ℕ) (ps : List Demand)
    → AllByRecursion (λ p. room grid t p.place p.class ≤ most_of most p.class) ps → demand_smallest q c ps ≡ Some m
    → room grid t q c ≤ most_of most c
room_most grid t most q c m [] a e = absurd cc
room_most grid t most q c m (p ∷ ps) a e = cases (is_demand_of q c p) refl e (room_most grid t most q c m ps a.1) where
  cases : (u : Bool) → is_demand_of q c p ≡ u → cond u (Some p.smallest) (demand_smallest q c ps) ≡ Some m
      → (demand_smallest q c ps ≡ Some m → room grid t q c ≤ most_of most c) → room grid t q c ≤ most_of most c
  cases true f g rest =
      let h = at_same q p.place c p.class f in
      let P : Place → ℕ → Type 0 = λ y j. room grid t y j ≤ most_of most j in
      let Q : Place → Type 0 = λ y. P y p.class in
      let R : ℕ → Type 0 = λ j. P q j in
      subst R h.1 (subst Q h.0 a.0)
  cases false f g rest = rest g

pub most_behind : (grid : Ladders) (t : Table) (most : List ℕ) (xs : List Booking) (ps : List Demand) (from : ℕ)
    → IsIndexed xs ps → IsMost grid t most ps → IsMostFor grid t most (drop from xs)
most_behind grid t most xs ps from i h =
    let P : Booking → Type 0 = λ b. fits grid t b ≡ true → b.seats ≤ most_of most b.class in
    record {
      each = all_drop P xs from (all_map (λ b. has (smallest_of b.place b.class xs)) P xs (λ b s. one b s) (has_each xs));
    }
  where
    one : (b : Booking) → has (smallest_of b.place b.class xs) → fits grid t b ≡ true → b.seats ≤ most_of most b.class
    one b s e =
        let enough : room grid t b.place b.class ≤ most_of most b.class = room_most grid t most b.place b.class s.0 ps h.each (i.smallest b.place b.class ∙ s.1) in
        let le : b.seats ≤ room grid t b.place b.class = grind (arith, nat_tests) in
        omega (arith, le, enough)

-- ---- tests that agree on each booking find the same
same_place : (p q : Booking → Bool) (xs : List Booking) → AllByRecursion (λ x. p x ≡ q x) xs
    → position_or_len p xs ≡ position_or_len q xs
same_place p q [] a = refl
same_place p q (x ∷ xs) a = rw (a.0, same_place p q xs a.1) refl

agree : (most seats : ℕ) (fit : Bool) → (fit ≡ true → seats ≤ most) → (nat_le seats most && fit) ≡ fit
agree most seats true h = let le = h refl in let yes : nat_le seats most ≡ true = grind (arith, nat_tests) in rw yes refl
agree most seats false h = none (nat_le seats most) where
  none : (u : Bool) → (u && false) ≡ false
  none true = refl
  none false = refl

pub first_fits : (grid : Ladders) (t : Table) (most : List ℕ) (xs : List Booking) → IsMostFor grid t most xs
    → position (λ (b : Booking). nat_le b.seats (most_of most b.class) && nat_le b.seats (room grid t b.place b.class)) xs
    ≡ position (fits grid t) xs
first_fits grid t most xs h =
    let P : Booking → Type 0 = λ b. fits grid t b ≡ true → b.seats ≤ most_of most b.class in
    let below : Booking → Bool = λ b. nat_le b.seats (most_of most b.class) && nat_le b.seats (room grid t b.place b.class) in
    ap (λ (k : ℕ). cond (nat_lt k (length xs)) (Some k) None)
    (same_place below (fits grid t) xs (all_map P (λ b. below b ≡ fits grid t b) xs
    (λ b f. agree (most_of most b.class) b.seats (fits grid t b) f) h.each))
