-- Counters that a pass changed, as they were before.
use Rattle.std.proofs.Common.{◌≡◌, ◌≢◌, ◌==◌, ◌&&◌, ℕ, zero, suc, ◌+◌, ◌-◌, ◌<◌, ◌≤◌, Bool, true, false, nat_le, nat_lt, List, [], ◌∷◌, ◌++◌, length, drop, get_or, map, arith, refl, ap, sym, subst, ◌∙◌, append_assoc}
use Rattle.std.proofs.lemmas.Bool.Decides.{nat_tests}
use Rattle.std.proofs.lemmas.List.Sums.{sum_by-cons}
use Rattle.airline_base.specs.declared.place.Place.{Place}
use Rattle.seat_nesting.specs.declared.ladder.Step.{Step}
use Rattle.seat_nesting.specs.Nesting.{Steps, Ladders, Table, IsWithin, IsDistinct, held_from, has_class, ladder_at, steps_at, each_leg, free, free_on, least, room, covers, seats_at}
use Rattle.seat_nesting.specs.Counting.{Counted, LegSeats, IsWithinLimits, leg_at, leg_in, limits_of, table_of, holds, leg_holds, Takes}
use Rattle.seat_nesting.proofs.CountChanges.{fits_each, fits_forwards, held_each, held_forwards, each_leg_at}
use Rattle.seat_rules.specs.declared.booking.Booking.{Booking}
use Rattle.seat_journal.specs.declared.entry.Advice.{Advice}
use Rattle.seat_rules.specs.Bookings.{is_waiting}
use Rattle.seat_rules.specs.Sequential.{advice_of}
use Rattle.seat_rules.specs.Showing.{given_back, taken_up, shown_advices, taken_back}
use Rattle.seat_rules.specs.Tables.{advices_by, told_of, with_advice}
use Rattle.seat_rules.proofs.Counters.Limits.{IsMore, held_lacking}
use Rattle.seat_rules.proofs.Counters.Changes.{same_table, taken}
use Rattle.seat_rules.proofs.Counters.Shown.{give_none, each_true, covers_at}
use Rattle.seat_rules.proofs.Passes.ByTable.{if_zero}
use Rattle.seat_nesting.proofs.LimitChanges.{ladder_seen}
use Rattle.seat_nesting.proofs.LegCounting.{free_lacking}
use Rattle.seat_nesting.proofs.Rooms.{held_cons, drop_first, fits_free}
use Rattle.airline_base.proofs.Tests.{both_true}

-- ---- seats that were given back fit again

-- the class stands further down
further : (s : Step) (xs : Steps) (class : ℕ) → (s.class == class) ≡ false → has_class (s ∷ xs) class ≡ true
    → has_class xs class ≡ true
further s xs class e h = let other : (class == s.class) ≡ false = grind (arith, nat_tests) in rw other at h

held_there : (xs : Steps) (new old : ℕ → ℕ) (class n : ℕ) → IsMore new old class n → IsDistinct xs
    → has_class xs class ≡ true → held_from new xs ≡ held_from old xs + n
held_there [] new old class n h d e = absurd cc
held_there (s ∷ xs) new old class n h d e = cases (s.class == class) refl (held_there xs new old class n h d.1) where
  cases : (b : Bool) → (s.class == class) ≡ b → (has_class xs class ≡ true → held_from new xs ≡ held_from old xs + n)
      → held_from new (s ∷ xs) ≡ held_from old (s ∷ xs) + n
  cases true g _ =
      let is : s.class ≡ class = grind (arith, nat_tests) in
      let rest = held_lacking xs new old s.class n (let P : ℕ → Type 0 = λ k. IsMore new old k n in subst P (sym is) h) d.0 in
      omega (arith, held_cons new s xs, held_cons old s xs, ap new is, ap old is, h.0, rest)
  cases false g below =
      let other : s.class ≢ class = grind (arith, nat_tests) in
      omega (arith, held_cons new s xs, held_cons old s xs, h.1 s.class other, below (further s xs class g e))

free_again : (xs : Steps) (new old : ℕ → ℕ) (class n : ℕ) → IsMore new old class n → IsDistinct xs
    → has_class xs class ≡ true → IsWithin xs new → n ≤ free_on xs old class
free_again [] new old class n h d e w = absurd cc
free_again (s ∷ xs) new old class n h d e w = cases (s.class == class) refl (λ (e' : has_class xs class ≡ true). free_again xs new old class n h d.1 e' w.1) where
  cases : (b : Bool) → (s.class == class) ≡ b → (has_class xs class ≡ true → n ≤ free_on xs old class)
      → n ≤ free_on (s ∷ xs) old class
  cases true g _ = rw g (omega (arith, held_there (s ∷ xs) new old class n h d e, w.0))
  cases false g below =
      let rest : n ≤ free_on xs old class = below (further s xs class g e) in
      rw g (omega (arith, held_there (s ∷ xs) new old class n h d e, w.0, rest))

least_ge : (f : ℕ → ℕ) (from k n : ℕ) → ((leg : ℕ) → from ≤ leg → leg ≤ from + k → n ≤ f leg) → n ≤ least f from k
least_ge f from zero n h = h from (omega arith) (omega arith)
least_ge f from (suc k) n h =
    let below : n ≤ least f from k = least_ge f from k n (λ leg a b. h leg a (omega (arith, b))) in
    let here : n ≤ f (from + suc k) = h (from + suc k) (omega arith) (omega arith) in
    omega (arith, below, here)

leg_steps : (legs : List LegSeats) (leg : ℕ)
    → steps_at (map (λ (l : LegSeats). l.steps) legs) leg ≡ (leg_in legs leg).steps
leg_steps [] leg = refl
leg_steps (l ∷ legs) zero = refl
leg_steps (l ∷ legs) (suc leg) = leg_steps legs leg

-- the class is there, on each leg of a place whose seats can be given back
class_there : (grid : Ladders) (t : Table) (p : Place) (class n leg : ℕ) → holds grid t p class n ≡ true → p.from ≤ leg
    → leg ≤ p.to → has_class (ladder_at grid p.flight leg) class ≡ true
class_there grid t p class n leg h a b =
    let each = (both_true (nat_le p.from p.to) (each_leg (λ leg. leg_holds (ladder_at grid p.flight leg) (t p.flight leg) class n) p.from (p.to - p.from)) h).1 in
    (both_true (has_class (ladder_at grid p.flight leg) class) (nat_le n (t p.flight leg class))
    (each_leg_at (λ leg. leg_holds (ladder_at grid p.flight leg) (t p.flight leg) class n) p.from (p.to - p.from) leg each a (omega (arith, a, b)))).0

abbrev less : Table → Place → ℕ → ℕ → Table
less t p class n = λ f l k. t f l k - seats_at p class n f l k

-- what was there is n seats more
is_more : (t : Table) (p : Place) (class n leg : ℕ) → covers p.flight leg p ≡ true → n ≤ t p.flight leg class
    → IsMore (t p.flight leg) (less t p class n p.flight leg) class n
is_more t p class n leg on le = (here, others) where
  here : t p.flight leg class ≡ less t p class n p.flight leg class + n
  here = let same : (class == class) ≡ true = grind (arith, nat_tests) in let whole : seats_at p class n p.flight leg class ≡ n = rw (on, same) refl in omega (arith, le, whole)

  others : (k : ℕ) → k ≢ class → t p.flight leg k ≡ less t p class n p.flight leg k
  others k other = let e : (class == k) ≡ false = grind (arith, nat_tests) in let none : seats_at p class n p.flight leg k ≡ 0 = rw (on, e) refl in omega (arith, none)

pub fits_again : (old : Counted) (p : Place) (class n : ℕ) → IsWithinLimits old
    → holds (limits_of old) (table_of old) p class n ≡ true
    → n ≤ free (limits_of old) (given_back (limits_of old) (table_of old) p class n) p class
fits_again old p class n within h =
    let order : p.from ≤ p.to = held_forwards (limits_of old) (table_of old) p class n h in
    let test : nat_le p.from p.to ≡ true = grind (arith, nat_tests) in
    let all : n ≤ least (λ leg. free_on (ladder_at (limits_of old) p.flight leg) (less (table_of old) p class n p.flight leg) class) p.from (p.to - p.from) =
    least_ge (λ leg. free_on (ladder_at (limits_of old) p.flight leg) (less (table_of old) p class n p.flight leg) class) p.from (p.to - p.from) n
    (λ leg a b. on_leg leg a (omega (arith, order, b))) in
    rw (h, test) all
  where
    on_leg : (leg : ℕ) → p.from ≤ leg → leg ≤ p.to
        → n ≤ free_on (ladder_at (limits_of old) p.flight leg) (less (table_of old) p class n p.flight leg) class
    on_leg leg a b =
        let kept = within.leg_kept p.flight leg in
        let is = ladder_seen old p.flight leg in
        let there : has_class (leg_at old p.flight leg).steps class ≡ true = sym (ap (λ (s : Steps). has_class s class) is) ∙ class_there (limits_of old) (table_of old) p class n leg h a b in
        let enough : n ≤ table_of old p.flight leg class = held_each (limits_of old) (table_of old) p class n leg h a b in
        rw is (free_again (leg_at old p.flight leg).steps (table_of old p.flight leg) (less (table_of old) p class n p.flight leg) class n
        (is_more (table_of old) p class n leg (covers_at p leg a b) enough) kept.ladder.distinct there kept.within)

-- and taken again they leave what was there
pub given_and_taken : (grid : Ladders) (t u : Table) (p : Place) (class n : ℕ) → holds grid t p class n ≡ true
    → ((f l k : ℕ) → u f l k ≡ given_back grid t p class n f l k + seats_at p class n f l k) → u ≡ t
given_and_taken grid t u p class n h e = same_table u t at where
  few : (f l k : ℕ) → seats_at p class n f l k ≤ t f l k
  few f l k = cases (p.flight == f) (nat_le p.from l) (nat_le l p.to) (class == k) refl refl refl refl where
    cases : (a b c d : Bool) → (p.flight == f) ≡ a → nat_le p.from l ≡ b → nat_le l p.to ≡ c → (class == k) ≡ d
        → seats_at p class n f l k ≤ t f l k
    cases true true true true ea eb ec ed =
        let flight : p.flight ≡ f = grind (arith, nat_tests) in
        let same : class ≡ k = grind (arith, nat_tests) in
        let low : p.from ≤ l = grind (arith, nat_tests) in
        let high : l ≤ p.to = grind (arith, nat_tests) in
        let held : n ≤ t p.flight l class = held_each grid t p class n l h low high in
        rw (ea, eb, ec, ed) (omega (arith, held, ap (λ x. t x l class) flight, ap (λ x. t f l x) same))
    cases true true true false ea eb ec ed = rw (ea, eb, ec, ed) (omega arith)
    cases true true false d ea eb ec ed = rw (ea, eb, ec) (omega arith)
    cases true false c d ea eb ec ed = rw (ea, eb) (omega arith)
    cases false b c d ea eb ec ed = rw ea (omega arith)

  at : (f l k : ℕ) → u f l k ≡ t f l k
  at f l k =
      let given : given_back grid t p class n f l k ≡ t f l k - seats_at p class n f l k = rw h refl in
      let enough : seats_at p class n f l k ≤ t f l k = few f l k in
      omega (arith, e f l k, given, enough)

-- ---- seats that were taken can be given back

abbrev more : Table → Place → ℕ → ℕ → Table
more t p class n = λ f l k. t f l k + seats_at p class n f l k

holds_taken : (grid : Ladders) (t : Table) (p : Place) (class n : ℕ) → 0 < n → n ≤ room grid t p class
    → holds grid (more t p class n) p class n ≡ true
holds_taken grid t p class n some fits =
    let order : p.from ≤ p.to = fits_forwards grid t p class n (fits_free grid t p class n fits) some in
    let test : nat_le p.from p.to ≡ true = grind (arith, nat_tests) in
    let all = each_true (λ leg. leg_holds (ladder_at grid p.flight leg) (more t p class n p.flight leg) class n) p.from (p.to - p.from)
    (λ leg a b. on_leg leg a (omega (arith, order, b)) (has_class (ladder_at grid p.flight leg) class) refl) in
    rw (test, all) refl
  where
    on_leg : (leg : ℕ) → p.from ≤ leg → leg ≤ p.to → (there : Bool)
        → has_class (ladder_at grid p.flight leg) class ≡ there
        → leg_holds (ladder_at grid p.flight leg) (more t p class n p.flight leg) class n ≡ true
    on_leg leg a b true e =
        let same : (class == class) ≡ true = grind (arith, nat_tests) in
        let on = covers_at p leg a b in
        let whole : seats_at p class n p.flight leg class ≡ n = rw (on, same) refl in
        let le : n ≤ more t p class n p.flight leg class = omega (arith, whole) in
        let enough : nat_le n (more t p class n p.flight leg class) ≡ true = grind (arith, nat_tests) in
        rw (e, enough) refl
    on_leg leg a b false e = absurd (omega (arith, some, fits_each grid t p class n leg (fits_free grid t p class n fits) a b, free_lacking (ladder_at grid p.flight leg) (t p.flight leg) class e))

given_taken : (grid : Ladders) (t : Table) (p : Place) (class n : ℕ) → n ≤ room grid t p class
    → given_back grid (more t p class n) p class n ≡ t
given_taken grid t p class zero fits =
    give_none grid (more t p class 0) p class
    ∙ same_table (more t p class 0) t (λ f l k. let none = if_zero (covers f l p && (class == k)) in omega (arith, none))
given_taken grid t p class (suc m) fits =
    rw (holds_taken grid t p class (suc m) (omega arith) fits)
    (same_table (λ f l k. more t p class (suc m) f l k - seats_at p class (suc m) f l k) t (λ f l k. omega arith))

back_push : (grid : Ladders) (u : Table) (xs ys : List Advice)
    → taken_back grid u (xs ++ ys) ≡ taken_back grid (taken_back grid u ys) xs
back_push grid u [] ys = refl
back_push grid u (x ∷ xs) ys = ap (λ (t : Table). given_back grid t x.place x.class x.seats) (back_push grid u xs ys)

one_back : (grid : Ladders) (t : Table) (b : Booking)
    → taken_back grid (shown_advices grid t (told_of grid t b)) (told_of grid t b) ≡ t
one_back grid t b = cases (is_waiting b.status && nat_le b.seats (room grid t b.place b.class)) refl where
  cases : (m : Bool) → (is_waiting b.status && nat_le b.seats (room grid t b.place b.class)) ≡ m
      → taken_back grid (shown_advices grid t (told_of grid t b)) (told_of grid t b) ≡ t
  cases true e =
      let fits = (both_true (is_waiting b.status) (nat_le b.seats (room grid t b.place b.class)) e).1 in
      let le : b.seats ≤ room grid t b.place b.class = grind (arith, nat_tests) in
      let up : taken_up grid t b.place b.class b.seats ≡ more t b.place b.class b.seats = rw fits refl in
      rw e (ap (λ (u : Table). given_back grid u b.place b.class b.seats) up ∙ given_taken grid t b.place b.class b.seats le)
  cases false e = rw e refl

-- what one booking more took is given back first
pub back_next : (grid : Ladders) (base t u : Table) (told : List Advice) (b : Booking) → taken_back grid t told ≡ base
    → u ≡ shown_advices grid t (told_of grid t b)
    → taken_back grid u (told ++ told_of grid t b) ≡ base
back_next grid base t u told b before shows =
    back_push grid u told (told_of grid t b)
    ∙ (ap (λ (x : Table). taken_back grid (taken_back grid x (told_of grid t b)) told) shows
    ∙ (ap (λ (x : Table). taken_back grid x told) (one_back grid t b) ∙ before))

-- ---- booking by booking

one_told : (grid : Ladders) (t : Table) (b : Booking) (rest : List Booking)
    → advices_by grid t (b ∷ rest) ≡ told_of grid t b ++ advices_by grid (shown_advices grid t (told_of grid t b)) rest
one_told grid t b rest = cases (is_waiting b.status && nat_le b.seats (room grid t b.place b.class)) refl where
  cases : (m : Bool) → (is_waiting b.status && nat_le b.seats (room grid t b.place b.class)) ≡ m
      → advices_by grid t (b ∷ rest) ≡ told_of grid t b
      ++ advices_by grid (shown_advices grid t (told_of grid t b)) rest
  cases true e =
      let fits = (both_true (is_waiting b.status) (nat_le b.seats (room grid t b.place b.class)) e).1 in
      let up : taken_up grid t b.place b.class b.seats ≡ with_advice t (advice_of b) = rw fits refl in
      rw e (ap (λ (u : Table). advice_of b ∷ advices_by grid u rest) (sym up))
  cases false e = rw e refl

pub told_next : (grid : Ladders) (t u : Table) (told more : List Advice) (queue : List Booking) (i j : ℕ) (b : Booking)
    → j ≡ i + 1 → i < length queue → b ≡ get_or queue i b
    → more ≡ told_of grid t b → u ≡ shown_advices grid t (told_of grid t b)
    → (told ++ more) ++ advices_by grid u (drop j queue) ≡ told ++ advices_by grid t (drop i queue)
told_next grid t u told more queue i j b next lt is tells shows =
    append_assoc told more (advices_by grid u (drop j queue))
    ∙ (ap (λ (x : List Advice). told ++ (x ++ advices_by grid u (drop j queue))) tells
    ∙ (ap (λ (x : Table). told ++ (told_of grid t b ++ advices_by grid x (drop j queue))) shows
    ∙ (ap (λ (x : List Advice). told ++ x) (sym (one_told grid t b (drop j queue)))
    ∙ ap (λ (x : List Booking). told ++ advices_by grid t x) (sym (drop_first queue i j b next lt is)))))

pub told_fits : (grid : Ladders) (t : Table) (b : Booking) → is_waiting b.status ≡ true
    → b.seats ≤ room grid t b.place b.class → told_of grid t b ≡ advice_of b ∷ []
told_fits grid t b waits le = let fits : nat_le b.seats (room grid t b.place b.class) ≡ true = grind (arith, nat_tests) in rw (waits, fits) refl

pub told_over : (grid : Ladders) (t : Table) (b : Booking) → room grid t b.place b.class < b.seats
    → told_of grid t b ≡ []
told_over grid t b over = cases (is_waiting b.status) refl where
  no : nat_le b.seats (room grid t b.place b.class) ≡ false
  no = grind (arith, nat_tests)

  cases : (w : Bool) → is_waiting b.status ≡ w → told_of grid t b ≡ []
  cases true e = rw (e, no) refl
  cases false e = rw e refl

pub told_held : (grid : Ladders) (t : Table) (b : Booking) → is_waiting b.status ≡ false → told_of grid t b ≡ []
told_held grid t b e = rw e refl

pub taken_one : (old new : Counted) (b : Booking) → Takes old new b.place b.class b.seats
    → b.seats ≤ room (limits_of old) (table_of old) b.place b.class
    → table_of new ≡ shown_advices (limits_of old) (table_of old) (advice_of b ∷ [])
taken_one old new b takes le = taken old new b.place b.class b.seats takes le
