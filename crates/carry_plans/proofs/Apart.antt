-- No two of those that are asked for are for the same: who goes by a name stays apart, and where a row leads none is twice.
use Rattle.std.proofs.Common.{◌≡◌, ◌==◌, ◌<◌, ◌&&◌, ◌||◌, ◌++◌, ℕ, nat_eq, nat_lt, not, Bool, true, false, List, [], ◌∷◌, filter, length, slice_get, option_to_list, Option, Some, None, arith, refl, sym, ap, subst, ◌∙◌}
use Rattle.std.specs.Cmp.Lexicographic.{pointwise}
use Rattle.std.specs.List.{AllByRecursion}
use Rattle.std.proofs.lemmas.Bool.{or_parts}
use Rattle.std.proofs.lemmas.Bool.Decides.{nat_tests}
use Rattle.std.proofs.lemmas.List.Elements.{filter-append}
use Rattle.std.proofs.lemmas.Option.{slice_get_within}
use Rattle.airline_base.proofs.Tests.{some_is}
use Rattle.airline_base.specs.declared.place.Place.{Place}
use Rattle.ssim_flights.specs.declared.flight.Flight.{Flight as Flown}
use Rattle.seat_journal.specs.declared.entry.Entry.{Entry}
use Rattle.seat_nesting.specs.Nesting.{Ladders, legs_of}
use Rattle.seat_rules.specs.Bookings.{Differs, IsApart, is_for, same_place}
use Rattle.seat_rules.specs.Flights.{bookings_on}
use Rattle.seat_rules.specs.declared.booking.Booking.{Booking}
use Rattle.seat_rules.proofs.Filters.{apart_pass}
use Rattle.seat_rules.proofs.History.Faults.{place_same, same_nat}
use Rattle.seat_carrying.specs.Owned.{bookings_of}
use Rattle.seat_carrying.specs.declared.owned.Owned.{Owned}
use Rattle.seat_carrying.proofs.Turns.{differs_back}
use Rattle.seat_moving.specs.Moving.{moved, moved_by, session_of, target}
use Rattle.seat_moving.specs.declared.target.Target.{Target}
use Rattle.seat_moving.specs.declared.target.Target.TheVariants.{Departed, Lost, Onto}
use Rattle.carry_asking.proofs.Apart.{moved_stay_apart}
use Rattle.carry_limits.specs.ByFlight.{IsByFlight, Lists, list_at}
use Rattle.carry_limits.specs.Legs.{HasLegsOf, run_in, run_of}
use Rattle.carry_order.specs.Ordering.{first_under, holds_under}
use Rattle.carry_order.proofs.Apart.{stays_apart}
use Rattle.carry_protections.specs.Going.{course_for, goes_by, goes_under, moved_under, protected}
use Rattle.carry_protections.specs.Refusing.{has_for, has_twice}
use Rattle.carry_protections.specs.declared.course.Course.{Course}
use Rattle.carry_plans.specs.Plans.{first_twice}

-- ---- lists

hit : (p : Owned → Bool) (o : Owned) (xs : List Owned) → p o ≡ true → filter p (o ∷ xs) ≡ o ∷ filter p xs
hit p o xs e = rw e refl

missed : (p : Owned → Bool) (o : Owned) (xs : List Owned) → p o ≡ false → filter p (o ∷ xs) ≡ filter p xs
missed p o xs e = rw e refl

turned : (p q : Owned → Bool) (xs : List Owned) → filter p (filter q xs) ≡ filter q (filter p xs)
turned p q [] = refl
turned p q (x ∷ xs) = cases (p x) (q x) refl refl (turned p q xs) where
  cases : (t u : Bool) → p x ≡ t → q x ≡ u → filter p (filter q xs) ≡ filter q (filter p xs)
      → filter p (filter q (x ∷ xs)) ≡ filter q (filter p (x ∷ xs))
  cases true true e f rest =
      ap (filter p) (hit q x xs f) ∙ hit p x (filter q xs) e ∙ ap (λ (l : List Owned). x ∷ l) rest ∙ sym (hit q x (filter p xs) f)
      ∙ ap (filter q) (sym (hit p x xs e))
  cases true false e f rest =
      ap (filter p) (missed q x xs f) ∙ rest ∙ sym (missed q x (filter p xs) f) ∙ ap (filter q) (sym (hit p x xs e))
  cases false true e f rest =
      ap (filter p) (hit q x xs f) ∙ missed p x (filter q xs) e ∙ rest ∙ ap (filter q) (sym (missed p x xs e))
  cases false false e f rest = ap (filter p) (missed q x xs f) ∙ rest ∙ ap (filter q) (sym (missed p x xs e))

under_turned : (p : Owned → Bool) (first : List (List ℕ)) (os : List Owned) → filter p (first_under first os) ≡ first_under first (filter p os)
under_turned p [] os = refl
under_turned p (l ∷ first) os =
    filter-append p (filter (holds_under l) os) (first_under first (filter (λ o. not (holds_under l o)) os))
    ∙ ap (λ (xs : List Owned). xs ++ filter p (first_under first (filter (λ o. not (holds_under l o)) os))) (turned p (holds_under l) os)
    ∙ ap (λ (xs : List Owned). filter (holds_under l) (filter p os) ++ xs) (under_turned p first (filter (λ o. not (holds_under l o)) os))
    ∙ ap (λ (xs : List Owned). filter (holds_under l) (filter p os) ++ first_under first xs) (turned p (λ o. not (holds_under l o)) os)

left_differ : (x : Booking) (p : Owned → Bool) (os : List Owned) → AllByRecursion (Differs x) (bookings_of os)
    → AllByRecursion (Differs x) (bookings_of (filter p os))
left_differ x p [] all = tt
left_differ x p (o ∷ os) all = cases (p o) refl (left_differ x p os all.1) where
  cases : (t : Bool) → p o ≡ t → AllByRecursion (Differs x) (bookings_of (filter p os))
      → AllByRecursion (Differs x) (bookings_of (filter p (o ∷ os)))
  cases true e rest = rw e (all.0, rest)
  cases false e rest = rw e rest

pub left_apart : (p : Owned → Bool) (os : List Owned) → IsApart (bookings_of os) → IsApart (bookings_of (filter p os))
left_apart p [] apart = tt
left_apart p (o ∷ os) apart = cases (p o) refl (left_apart p os apart.1) where
  cases : (t : Bool) → p o ≡ t → IsApart (bookings_of (filter p os)) → IsApart (bookings_of (filter p (o ∷ os)))
  cases true e rest = rw e (left_differ o.booking p os apart.0, rest)
  cases false e rest = rw e rest

-- ---- where rows lead

abbrev is_target : List Course → Place → Bool
is_target [] p = false
is_target (c ∷ courses) p = same_place p c.to || is_target courses p

place_itself : (p : Place) → same_place p p ≡ true
place_itself p = rw (same_nat p.flight, same_nat p.from, same_nat p.to) refl

or_left : (a b : Bool) → a ≡ true → (a || b) ≡ true
or_left a b e = rw e refl

or_right : (a b : Bool) → b ≡ true → (a || b) ≡ true
or_right true b e = refl
or_right false b e = e

course_leads : (courses : List Course) (p : Place) (c : Course) → course_for courses p ≡ Some c → is_target courses c.to ≡ true
course_leads [] p c e = absurd cc
course_leads (x ∷ courses) p c e = cases (same_place x.from p) refl (λ h. course_leads courses p c h) where
  cases : (t : Bool) → same_place x.from p ≡ t → (course_for courses p ≡ Some c → is_target courses c.to ≡ true)
      → is_target (x ∷ courses) c.to ≡ true
  cases true f rest =
      let same : x ≡ c = some_is x c (rw f at e) in
      or_left (same_place c.to x.to) (is_target courses c.to)
      (subst (λ (y : Course). same_place c.to y.to ≡ true) (sym same) (place_itself c.to))
  cases false f rest = or_right (same_place c.to x.to) (is_target courses c.to) (rest (rw f at e))

-- no row leads to its place
abbrev by_name : List Course → Owned → Bool
by_name courses o = not (is_target courses o.booking.place)

abbrev is_unnamed : Option Course → Bool
is_unnamed None = true
is_unnamed (Some c) = false

module _ (courses : List Course) (journal : List Entry) (old new : List Flown) (today : ℕ) where
  -- no row names its own place
  abbrev is_free : Booking → Bool
  is_free b = is_unnamed (course_for courses b.place)

  same_front : (m : Option Owned) (xs ys : List Owned) → filter (by_name courses) xs ≡ filter (by_name courses) ys
      → filter (by_name courses) (option_to_list m ++ xs) ≡ filter (by_name courses) (option_to_list m ++ ys)
  same_front None xs ys e = e
  same_front (Some o) xs ys e = cases (by_name courses o) refl where
    cases : (t : Bool) → by_name courses o ≡ t → filter (by_name courses) (o ∷ xs) ≡ filter (by_name courses) (o ∷ ys)
    cases true f =
        hit (by_name courses) o xs f ∙ ap (λ (l : List Owned). o ∷ l) e ∙ sym (hit (by_name courses) o ys f)
    cases false f = missed (by_name courses) o xs f ∙ e ∙ sym (missed (by_name courses) o ys f)

  drops : (session : ℕ) (b : Booking) (c : Course) (t : Target) (xs : List Owned) → is_target courses c.to ≡ true
      → filter (by_name courses) (option_to_list (goes_by session b c t) ++ xs) ≡ filter (by_name courses) xs
  drops session b c Departed xs leads = refl
  drops session b c Lost xs leads =
      missed (by_name courses) (record { session = session; booking = protected c b }) xs (ap not leads)
  drops session b c (Onto p) xs leads =
      missed (by_name courses) (record { session = session; booking = protected c b }) xs (ap not leads)

  free_hit : (b : Booking) (bs : List Booking) → is_free b ≡ true → filter is_free (b ∷ bs) ≡ b ∷ filter is_free bs
  free_hit b bs e = rw e refl

  free_missed : (b : Booking) (bs : List Booking) → is_free b ≡ false → filter is_free (b ∷ bs) ≡ filter is_free bs
  free_missed b bs e = rw e refl

  by_names : (bs : List Booking) → filter (by_name courses) (moved_under courses journal old new today bs)
      ≡ filter (by_name courses) (moved journal old new today (filter is_free bs))
  by_names [] = refl
  by_names (b ∷ bs) = cases (course_for courses b.place) refl (by_names bs) where
    cases : (m : Option Course) → course_for courses b.place ≡ m
        → filter (by_name courses) (moved_under courses journal old new today bs)
        ≡ filter (by_name courses) (moved journal old new today (filter is_free bs))
        → filter (by_name courses) (moved_under courses journal old new today (b ∷ bs))
        ≡ filter (by_name courses) (moved journal old new today (filter is_free (b ∷ bs)))
    cases None e rest =
        ap (λ (m : Option Course). filter (by_name courses)
        (option_to_list (goes_under (session_of journal b) b m (target old new today b.place)) ++ moved_under courses journal old new today bs)) e
        ∙ same_front (moved_by journal old new today b) (moved_under courses journal old new today bs) (moved journal old new today (filter is_free bs)) rest
        ∙ ap (λ (l : List Booking). filter (by_name courses) (moved journal old new today l)) (sym (free_hit b bs (ap is_unnamed e)))
    cases (Some c) e rest =
        ap (λ (m : Option Course). filter (by_name courses)
        (option_to_list (goes_under (session_of journal b) b m (target old new today b.place)) ++ moved_under courses journal old new today bs)) e
        ∙ drops (session_of journal b) b c (target old new today b.place) (moved_under courses journal old new today bs) (course_leads courses b.place c e)
        ∙ rest
        ∙ ap (λ (l : List Booking). filter (by_name courses) (moved journal old new today l)) (sym (free_missed b bs (ap is_unnamed e)))

  -- who goes by a name is apart, whoever is asked for first and whichever are left
  named_apart : (first : List (List ℕ)) (p : Owned → Bool) (live : List Booking) (kept : List Owned) → IsApart live
      → kept ≡ first_under first (filter p (moved_under courses journal old new today live)) → IsApart (bookings_of (filter (by_name courses) kept))
  named_apart first p live kept apart is =
      stays_apart first (filter p (filter (by_name courses) (moved journal old new today (filter is_free live)))) (filter (by_name courses) kept)
      (ap (filter (by_name courses)) is ∙ under_turned (by_name courses) first (filter p (moved_under courses journal old new today live))
      ∙ ap (first_under first) (turned (by_name courses) p (moved_under courses journal old new today live)
      ∙ ap (filter p) (by_names live)))
      (left_apart p (filter (by_name courses) (moved journal old new today (filter is_free live)))
      (left_apart (by_name courses) (moved journal old new today (filter is_free live))
      (moved_stay_apart journal old new today (filter is_free live) (apart_pass is_free live apart))))

-- ---- none is twice where a row leads

on_hit : (flight : ℕ) (b : Booking) (bs : List Booking) → (b.place.flight == flight) ≡ true → bookings_on flight (b ∷ bs) ≡ b ∷ bookings_on flight bs
on_hit flight b bs e = rw e refl

on_missed : (flight : ℕ) (b : Booking) (bs : List Booking) → (b.place.flight == flight) ≡ false → bookings_on flight (b ∷ bs) ≡ bookings_on flight bs
on_missed flight b bs e = rw e refl

-- elsewhere it is another
elsewhere : (x b : Booking) → same_place x.place b.place ≡ false → Differs x b
elsewhere x b e = by (pointwise nat_eq x.locator b.locator) (x.class == b.class) where
  by : (s t : Bool) → (s && same_place x.place b.place && t) ≡ false
  by true t = rw e refl
  by false t = refl

other_flight : (p q : Place) → (p.flight == q.flight) ≡ false → same_place p q ≡ false
other_flight p q e = rw e refl

none_for : (b : Booking) (bs : List Booking) → has_for b (bookings_on b.place.flight bs) ≡ false → AllByRecursion (Differs b) bs
none_for b [] none = tt
none_for b (x ∷ bs) none = cases (x.place.flight == b.place.flight) refl (λ h. none_for b bs h) where
  cases : (t : Bool) → (x.place.flight == b.place.flight) ≡ t → (has_for b (bookings_on b.place.flight bs) ≡ false → AllByRecursion (Differs b) bs)
      → AllByRecursion (Differs b) (x ∷ bs)
  cases true e rest =
      let both = or_parts (is_for b.locator b.place b.class x) (has_for b (bookings_on b.place.flight bs))
      (ap (has_for b) (sym (on_hit b.place.flight x bs e)) ∙ none) in
      (differs_back x b both.0, rest both.1)
  cases false e rest =
      (differs_back x b (elsewhere x b (other_flight x.place b.place e)), rest (ap (has_for b) (sym (on_missed b.place.flight x bs e)) ∙ none))

-- on the place of each row
abbrev NoneTwice : List Course → List Booking → Type 0
NoneTwice courses bs = AllByRecursion (λ c. has_twice c.to (bookings_on c.to.flight bs) ≡ false) courses

twice_behind : (p : Place) (b : Booking) (bs : List Booking) → has_twice p (bookings_on p.flight (b ∷ bs)) ≡ false
    → has_twice p (bookings_on p.flight bs) ≡ false
twice_behind p b bs none = cases (b.place.flight == p.flight) refl where
  cases : (t : Bool) → (b.place.flight == p.flight) ≡ t → has_twice p (bookings_on p.flight bs) ≡ false
  cases true e =
      let both = or_parts (same_place b.place p && has_for b (bookings_on p.flight bs)) (has_twice p (bookings_on p.flight bs))
      (ap (has_twice p) (sym (on_hit p.flight b bs e)) ∙ none) in
      both.1
  cases false e = ap (has_twice p) (sym (on_missed p.flight b bs e)) ∙ none

none_behind : (courses : List Course) (b : Booking) (bs : List Booking) → NoneTwice courses (b ∷ bs) → NoneTwice courses bs
none_behind [] b bs none = tt
none_behind (c ∷ courses) b bs none = (twice_behind c.to b bs none.0, none_behind courses b bs none.1)

once_here : (b : Booking) (bs : List Booking) → has_twice b.place (bookings_on b.place.flight (b ∷ bs)) ≡ false → AllByRecursion (Differs b) bs
once_here b bs none =
    let both = or_parts (same_place b.place b.place && has_for b (bookings_on b.place.flight bs)) (has_twice b.place (bookings_on b.place.flight bs))
    (ap (has_twice b.place) (sym (on_hit b.place.flight b bs (same_nat b.place.flight))) ∙ none) in
    none_for b bs (ap (λ (t : Bool). t && has_for b (bookings_on b.place.flight bs)) (sym (place_itself b.place)) ∙ both.0)

once_there : (courses : List Course) (b : Booking) (bs : List Booking) → is_target courses b.place ≡ true → NoneTwice courses (b ∷ bs)
    → AllByRecursion (Differs b) bs
once_there [] b bs leads none = absurd cc
once_there (c ∷ courses) b bs leads none = cases (same_place b.place c.to) refl (λ h. once_there courses b bs h none.1) where
  cases : (t : Bool) → same_place b.place c.to ≡ t → (is_target courses b.place ≡ true → AllByRecursion (Differs b) bs) → AllByRecursion (Differs b) bs
  cases true e rest =
      once_here b bs
      (subst (λ (p : Place). has_twice p (bookings_on p.flight (b ∷ bs)) ≡ false) (sym (place_same b.place c.to e)) none.0)
  cases false e rest = rest (rw e at leads)

apart_place : (courses : List Course) (p q : Place) → is_target courses p ≡ false → is_target courses q ≡ true → same_place p q ≡ false
apart_place courses p q alone leads = cases (same_place p q) refl where
  cases : (t : Bool) → same_place p q ≡ t → same_place p q ≡ false
  cases false f = f
  cases true f =
      let same : is_target courses p ≡ true = ap (is_target courses) (place_same p q f) ∙ leads in
      let wrong : true ≡ false = sym same ∙ alone in
      absurd cc

-- who goes by a name differs from all that do, and from those elsewhere
no_row_there : (courses : List Course) (b : Booking) (os : List Owned) → is_target courses b.place ≡ false
    → AllByRecursion (Differs b) (bookings_of (filter (by_name courses) os)) → AllByRecursion (Differs b) (bookings_of os)
no_row_there courses b [] alone all = tt
no_row_there courses b (o ∷ os) alone all = cases (is_target courses o.booking.place) refl (λ h. no_row_there courses b os alone h) where
  cases : (t : Bool) → is_target courses o.booking.place ≡ t
      → (AllByRecursion (Differs b) (bookings_of (filter (by_name courses) os)) → AllByRecursion (Differs b) (bookings_of os))
      → AllByRecursion (Differs b) (bookings_of (o ∷ os))
  cases true e rest = (
    elsewhere b o.booking (apart_place courses b.place o.booking.place alone e),
    rest (subst (λ (l : List Owned). AllByRecursion (Differs b) (bookings_of l)) (missed (by_name courses) o os (ap not e)) all),
  )
  cases false e rest =
      let both : AllByRecursion (Differs b) (bookings_of (o ∷ filter (by_name courses) os)) =
      subst (λ (l : List Owned). AllByRecursion (Differs b) (bookings_of l)) (hit (by_name courses) o os (ap not e)) all in
      (both.0, rest both.1)

all_apart : (courses : List Course) (os : List Owned) → IsApart (bookings_of (filter (by_name courses) os)) → NoneTwice courses (bookings_of os)
    → IsApart (bookings_of os)
all_apart courses [] named none = tt
all_apart courses (o ∷ os) named none = cases (is_target courses o.booking.place) refl (λ h. all_apart courses os h (none_behind courses o.booking (bookings_of os) none)) where
  cases : (t : Bool) → is_target courses o.booking.place ≡ t → (IsApart (bookings_of (filter (by_name courses) os)) → IsApart (bookings_of os))
      → IsApart (bookings_of (o ∷ os))
  cases true e rest = (
    once_there courses o.booking (bookings_of os) e none,
    rest (subst (λ (l : List Owned). IsApart (bookings_of l)) (missed (by_name courses) o os (ap not e)) named),
  )
  cases false e rest =
      let both : IsApart (bookings_of (o ∷ filter (by_name courses) os)) =
      subst (λ (l : List Owned). IsApart (bookings_of l)) (hit (by_name courses) o os (ap not e)) named in
      (no_row_there courses o.booking os e both.0, rest both.1)

-- ---- by flight

-- on a flight that there is not is nobody
nobody_there : (n flight : ℕ) → nat_lt flight n ≡ false → (bs : List Booking) → AllByRecursion (λ b. b.place.flight < n) bs → bookings_on flight bs ≡ []
nobody_there n flight off [] all = refl
nobody_there n flight off (b ∷ bs) all =
    let other : (b.place.flight == flight) ≡ false = grind (arith, nat_tests, all.0, off) in
    on_missed flight b bs other ∙ nobody_there n flight off bs all.1

none_twice : (lists : Lists) (n : ℕ) (bs : List Booking) → IsByFlight lists n bs → AllByRecursion (λ b. b.place.flight < n) bs
    → (courses : List Course) → first_twice lists courses ≡ None → NoneTwice courses bs
none_twice lists n bs by_flight inside [] once = tt
none_twice lists n bs by_flight inside (c ∷ courses) once =
    cases (has_twice c.to (list_at lists c.to.flight)) refl (λ h. none_twice lists n bs by_flight inside courses h)
  where
    here : (t : Bool) → nat_lt c.to.flight n ≡ t → has_twice c.to (list_at lists c.to.flight) ≡ false
        → has_twice c.to (bookings_on c.to.flight bs) ≡ false
    here true e none =
        let lt : c.to.flight < n = grind (arith, nat_tests, e) in
        ap (has_twice c.to) (sym (by_flight.each c.to.flight lt)) ∙ none
    here false e none = ap (has_twice c.to) (nobody_there n c.to.flight e bs inside)

    cases : (t : Bool) → has_twice c.to (list_at lists c.to.flight) ≡ t → (first_twice lists courses ≡ None → NoneTwice courses bs)
        → NoneTwice (c ∷ courses) bs
    cases true e rest = let wrong : Some c.line ≡ None = rw e at once in absurd cc
    cases false e rest = (here (nat_lt c.to.flight n) refl e, rest (rw e at once))

run_inside : (flights : List Flown) (flight n : ℕ) → n < length (run_of flights flight) → flight < length flights
run_inside flights flight n lt = cases (slice_get flights flight) refl where
  cases : (o : Option Flown) → slice_get flights flight ≡ o → flight < length flights
  cases None e =
      let none : length (run_of flights flight) ≡ 0 = ap (λ (o : Option Flown). length (run_in o)) e in
      absurd (omega (arith, lt, none))
  cases (Some f) e = slice_get_within flights flight f e

pub apart_by_rows : (courses : List Course) (journal : List Entry) (old new : List Flown) (today : ℕ) (first : List (List ℕ)) (p : Owned → Bool)
    (live : List Booking) (kept : List Owned) (file : Ladders) (lists : Lists) → HasLegsOf file new → IsApart live
    → kept ≡ first_under first (filter p (moved_under courses journal old new today live))
    → AllByRecursion (λ b. b.place.to < length (legs_of file b.place.flight)) (bookings_of kept)
    → IsByFlight lists (length new) (bookings_of kept) → first_twice lists courses ≡ None → IsApart (bookings_of kept)
apart_by_rows courses journal old new today first p live kept file lists has apart is there by_flight once =
    all_apart courses kept (named_apart courses journal old new today first p live kept apart is)
    (none_twice lists (length new) (bookings_of kept) by_flight (inside (bookings_of kept) there) courses once)
  where
    inside : (bs : List Booking) → AllByRecursion (λ b. b.place.to < length (legs_of file b.place.flight)) bs
        → AllByRecursion (λ b. b.place.flight < length new) bs
    inside [] all = tt
    inside (b ∷ bs) all =
        let same : length (legs_of file b.place.flight) ≡ length (run_of new b.place.flight) = has.each b.place.flight in
        (run_inside new b.place.flight b.place.to (omega (arith, all.0, same)), inside bs all.1)
