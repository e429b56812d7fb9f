-- Counters of one leg among those of all.
use Rattle.std.proofs.Common.{◌≡◌, ◌≢◌, ◌==◌, ℕ, zero, suc, ◌+◌, ◌-◌, ◌<◌, ◌≤◌, Bool, true, false, if◌then◌else◌, cond, ◌&&◌, ◌||◌, nat_le, IsTrue, Option, List, [], ◌∷◌, ◌++◌, length, map, take, get_or, set, unwrap_or, refl, ap, sym, subst, ◌∙◌, arith}
use Rattle.std.specs.List.{slice_get}
use Rattle.std.proofs.lemmas.Bool.{eqb-true, eqb-false, le-leb, leb-true, and_parts}
use Rattle.std.proofs.lemmas.Bool.Decides.{nat_tests}
use Rattle.std.proofs.lemmas.List.{map-set, set-get_or, get_or-set_same, get_or-set_other, map-append, length-map, get_or-map, take_more}
use Rattle.std.proofs.lemmas.Option.{unwrap_or-slice_get}
use Rattle.seat_nesting.specs.Nesting.{Steps, Ladders, steps_of, ladder_at, free, free_on, least, each_leg, covers, has_class}
use Rattle.airline_base.specs.declared.place.Place.{Place}
use Rattle.seat_nesting.proofs.Rooms.{least_le, free_same}
use Rattle.seat_nesting.specs.Counting.{LegSeats, Counted, held_on, leg_in, legs_in, leg_at, limits_of, table_of, no_leg, KeepsLimits, IsFresh, IsWithinLimits, LegChanges, FlightChanges, OneLegChanges, Changes, plus, less, leg_holds, holds}
use Rattle.seat_nesting.specs.declared.setting.Setting.{Setting}
use Rattle.seat_nesting.specs.Changing.{with_setting, leg_set, ladders_set, LegSets, FlightSets, SetsOn}

-- the place that was written, and the others
pub at_set : {X : Type 0} (xs : List X) (i j : ℕ) (x d : X) → i < length xs
    → unwrap_or (slice_get (set xs i x) j) d ≡ (if j == i then x else unwrap_or (slice_get xs j) d)
at_set xs i j x d h = of (j == i) refl
  where
    of : (b : Bool) → (j == i) ≡ b → unwrap_or (slice_get (set xs i x) j) d ≡ cond b x (unwrap_or (slice_get xs j) d)
    of true e =
        let same : j ≡ i = eqb-true j i e in
        unwrap_or-slice_get (set xs i x) j d ∙ ap (λ (k : ℕ). get_or (set xs i x) k d) same ∙ get_or-set_same xs i x d h
    of false e =
        let other : j ≢ i = eqb-false j i e in
        unwrap_or-slice_get (set xs i x) j d ∙ get_or-set_other xs i j x d other ∙ sym (unwrap_or-slice_get xs j d)

-- a list of values is as it was where a value is written that looks the same
pub map_set : {X Y : Type 0} (f : X → Y) (xs : List X) (i : ℕ) (x d : X) → f x ≡ f (unwrap_or (slice_get xs i) d)
    → i < length xs → map f (set xs i x) ≡ map f xs
map_set f xs i x d h lt =
    map-set f xs i x ∙ ap (set (map f xs) i) (h ∙ ap f (unwrap_or-slice_get xs i d)) ∙ sym (map-set f xs i (get_or xs i d)) ∙ ap (map f) (set-get_or xs i d)

abbrev steps_in : LegSeats → Steps
steps_in l = l.steps

-- one leg of a flight
pub flight_changes : (op : ℕ → ℕ → ℕ) → ((a : ℕ) → op a 0 ≡ a)
    → (old : List LegSeats) (leg : ℕ) (x : LegSeats) (class n : ℕ) → leg < length old
    → LegChanges op (leg_in old leg) x class n
    → FlightChanges op old (set old leg x) leg class n
flight_changes op none old leg x class n inside h = record {
  limits = map_set steps_in old leg x no_leg h.steps inside;
  seats = λ at k. seats_case at k (at == leg) refl;
  kept = λ all at. let P : LegSeats → Type 0 = λ l. KeepsLimits l in subst P (sym (at_set old leg at x no_leg inside)) (kept_case all at (at == leg));
}
  where
    seats_case : (at k : ℕ) (b : Bool) → (at == leg) ≡ b
        → held_on (leg_in (set old leg x) at) k ≡ op (held_on (leg_in old at) k) (if b && (class == k) then n else 0)
    seats_case at k true e =
        let same : at ≡ leg = eqb-true at leg e in
        let written : leg_in (set old leg x) at ≡ x = at_set old leg at x no_leg inside ∙ ap (λ (b : Bool). cond b x (leg_in old at)) e in
        ap (λ (l : LegSeats). held_on l k) written ∙ h.seats k ∙ ap (λ (i : ℕ). op (held_on (leg_in old i) k) (if class == k then n else 0)) (sym same)
    seats_case at k false e =
        let other : leg_in (set old leg x) at ≡ leg_in old at = at_set old leg at x no_leg inside ∙ ap (λ (b : Bool). cond b x (leg_in old at)) e in
        ap (λ (l : LegSeats). held_on l k) other ∙ sym (none (held_on (leg_in old at) k))

    kept_case : ((i : ℕ) → KeepsLimits (leg_in old i)) → (at : ℕ) (b : Bool) → KeepsLimits (cond b x (leg_in old at))
    kept_case all at true = h.kept
    kept_case all at false = all at

-- one leg of one flight
pub one_leg_changes : (op : ℕ → ℕ → ℕ) → ((a : ℕ) → op a 0 ≡ a)
    → (old : Counted) (flight : ℕ) (xs : List LegSeats) (leg class n : ℕ) → flight < length old
    → FlightChanges op (legs_in old flight) xs leg class n
    → OneLegChanges op old (set old flight xs) flight leg class n
one_leg_changes op none old flight xs leg class n inside h = record {
  limits = map_set (λ (legs : List LegSeats). map steps_in legs) old flight xs [] h.limits inside;
  seats = λ f at k. seats_case f at k (f == flight) refl;
}
  where
    seats_case : (f at k : ℕ) (b : Bool) → (f == flight) ≡ b
        → table_of (set old flight xs) f at k
        ≡ op (table_of old f at k) (if b && (at == leg) && (class == k) then n else 0)
    seats_case f at k true e =
        let same : f ≡ flight = eqb-true f flight e in
        let written : legs_in (set old flight xs) f ≡ xs = at_set old flight f xs [] inside ∙ ap (λ (b : Bool). cond b xs (legs_in old f)) e in
        ap (λ (l : List LegSeats). held_on (leg_in l at) k) written ∙ h.seats at k ∙ ap (λ (i : ℕ). op (table_of old i at k) (if (at == leg) && (class == k) then n else 0)) (sym same)
    seats_case f at k false e =
        let other : legs_in (set old flight xs) f ≡ legs_in old f = at_set old flight f xs [] inside ∙ ap (λ (b : Bool). cond b xs (legs_in old f)) e in
        ap (λ (l : List LegSeats). held_on (leg_in l at) k) other ∙ sym (none (table_of old f at k))

pub still_within : (op : ℕ → ℕ → ℕ) (old : Counted) (flight : ℕ) (xs : List LegSeats) (leg class n : ℕ)
    → flight < length old → FlightChanges op (legs_in old flight) xs leg class n
    → IsWithinLimits old → IsWithinLimits (set old flight xs)
still_within op old flight xs leg class n inside h w = record {
  leg_kept = λ f at. let P : List LegSeats → Type 0 = λ l. KeepsLimits (leg_in l at) in subst P (sym (at_set old flight f xs [] inside)) (kept_case f at (f == flight));
}
  where
    kept_case : (f at : ℕ) (b : Bool) → KeepsLimits (leg_in (cond b xs (legs_in old f)) at)
    kept_case f at true = h.kept (λ i. w.leg_kept flight i) at
    kept_case f at false = w.leg_kept f at

-- ---- no number

pub plus_none : (a : ℕ) → plus a 0 ≡ a
plus_none a = omega arith

pub less_none : (a : ℕ) → less a 0 ≡ a
less_none a = omega arith

-- ---- one more leg, one more flight

pub each_push : {X : Type 0} (xs : List X) (x d : X) (P : X → Type 0) → ((i : ℕ) → P (unwrap_or (slice_get xs i) d))
    → P x → (i : ℕ) → P (unwrap_or (slice_get (xs ++ x ∷ []) i) d)
each_push [] x d P all here zero = here
each_push [] x d P all here (suc i) = all (suc i)
each_push (y ∷ ys) x d P all here zero = all zero
each_push (y ∷ ys) x d P all here (suc i) = each_push ys x d P (λ j. all (suc j)) here i

-- ---- what a write into a list of counters says

pub flight_written : (op : ℕ → ℕ → ℕ) → ((a : ℕ) → op a 0 ≡ a)
    → (items now : List LegSeats) (leg : ℕ) (old new : LegSeats) (class n : ℕ) → items ≡ now → leg < length items
    → old ≡ get_or items leg no_leg → LegChanges op old new class n
    → FlightChanges op now (set items leg new) leg class n
flight_written op none items now leg old new class n same inside is h =
    let here : LegChanges op (leg_in items leg) new class n = let P : LegSeats → Type 0 = λ x. LegChanges op x new class n in subst P (is ∙ sym (unwrap_or-slice_get items leg no_leg)) h in
    let P : List LegSeats → Type 0 = λ x. FlightChanges op x (set items leg new) leg class n in
    subst P same (flight_changes op none items leg new class n inside here)

flight_here : (op : ℕ → ℕ → ℕ) (items : Counted) (flight : ℕ) (old new : List LegSeats) (leg class n : ℕ)
    → old ≡ get_or items flight [] → FlightChanges op old new leg class n
    → FlightChanges op (legs_in items flight) new leg class n
flight_here op items flight old new leg class n is h =
    let P : List LegSeats → Type 0 = λ x. FlightChanges op x new leg class n in
    subst P (is ∙ sym (unwrap_or-slice_get items flight [])) h

pub leg_written : (op : ℕ → ℕ → ℕ) → ((a : ℕ) → op a 0 ≡ a)
    → (items now : Counted) (flight : ℕ) (old new : List LegSeats) (leg class n : ℕ) → items ≡ now
    → flight < length items → old ≡ get_or items flight [] → FlightChanges op old new leg class n
    → OneLegChanges op now (set items flight new) flight leg class n
leg_written op none items now flight old new leg class n same inside is h =
    let P : Counted → Type 0 = λ x. OneLegChanges op x (set items flight new) flight leg class n in
    subst P same (one_leg_changes op none items flight new leg class n inside (flight_here op items flight old new leg class n is h))

pub within_written : (op : ℕ → ℕ → ℕ) (items : Counted) (flight : ℕ) (old new : List LegSeats) (leg class n : ℕ)
    → flight < length items → old ≡ get_or items flight [] → FlightChanges op old new leg class n
    → IsWithinLimits items → IsWithinLimits (set items flight new)
within_written op items flight old new leg class n inside is h w =
    still_within op items flight new leg class n inside (flight_here op items flight old new leg class n is h) w

-- ---- leg after leg of a place

one_step : (op : ℕ → ℕ → ℕ) → ((a : ℕ) → op a 0 ≡ a) → (a mid new n : ℕ) (before here after same : Bool)
    → mid ≡ op a (cond (before && same) n 0) → new ≡ op mid (cond (here && same) n 0) → after ≡ (before || here)
    → (before && here) ≡ false → new ≡ op a (cond (after && same) n 0)
one_step op none a mid new n true true after same e f g h = absurd cc
one_step op none a mid new n true false after same e f g h = f ∙ none mid ∙ e ∙ ap (λ (b : Bool). op a (cond (b && same) n 0)) (sym g)
one_step op none a mid new n false here after same e f g h =
    f ∙ ap (λ (m : ℕ). op m (cond (here && same) n 0)) (e ∙ none a) ∙ ap (λ (b : Bool). op a (cond (b && same) n 0)) (sym g)

abbrev part : ℕ → ℕ → ℕ → Place
part flight from to = record { flight = flight; from = from; to = to }

covers_more : (flight from leg f at : ℕ) → from ≤ leg
    → covers f at (part flight from (leg + 1))
    ≡ (covers f at (part flight from leg) || ((f == flight) && (at == leg + 1)))
covers_more flight from leg f at le = grind (arith, nat_tests)

covers_once : (flight from leg f at : ℕ)
    → (covers f at (part flight from leg) && ((f == flight) && (at == leg + 1))) ≡ false
covers_once flight from leg f at = grind (arith, nat_tests)

pub changes_more : (op : ℕ → ℕ → ℕ) → ((a : ℕ) → op a 0 ≡ a) → (old mid new : Counted) (flight from leg class n : ℕ)
    → from ≤ leg → Changes op old mid (part flight from leg) class n → OneLegChanges op mid new flight (leg + 1) class n
    → Changes op old new (part flight from (leg + 1)) class n
changes_more op none old mid new flight from leg class n le before here = record {
  limits = here.limits ∙ before.limits;
  seats = λ f at k. one_step op none (table_of old f at k) (table_of mid f at k) (table_of new f at k) n
      (covers f at (part flight from leg)) ((f == flight) && (at == leg + 1)) (covers f at (part flight from (leg + 1))) (class == k)
      (before.seats f at k) (here.seats f at k) (covers_more flight from leg f at le) (covers_once flight from leg f at);
}

covers_past : (flight from leg at : ℕ) → leg < at → covers flight at (part flight from leg) ≡ false
covers_past flight from leg at lt = grind (arith, nat_tests)

-- the legs behind are as they were
pub same_behind : (op : ℕ → ℕ → ℕ) → ((a : ℕ) → op a 0 ≡ a) → (old new : Counted) (flight from leg at class n : ℕ)
    → leg < at → Changes op old new (part flight from leg) class n → (k : ℕ)
    → table_of new flight at k ≡ table_of old flight at k
same_behind op none old new flight from leg at class n lt h k =
    h.seats flight at k ∙ ap (λ (b : Bool). op (table_of old flight at k) (cond (b && (class == k)) n 0)) (covers_past flight from leg at lt) ∙ none (table_of old flight at k)

-- ---- seats that fit, on each leg

pub fits_forwards : (grid : Ladders) (seats : ℕ → ℕ → ℕ → ℕ) (place : Place) (class n : ℕ)
    → n ≤ free grid seats place class → 0 < n → place.from ≤ place.to
fits_forwards grid seats place class n h some = of (nat_le place.from place.to) refl h
  where
    of : (b : Bool) → nat_le place.from place.to ≡ b
        → n ≤ cond b (least (λ leg. free_on (ladder_at grid place.flight leg) (seats place.flight leg) class) place.from
        (place.to - place.from)) 0 → place.from ≤ place.to
    of true e f = grind (arith, nat_tests, e)
    of false e f = absurd (omega (arith, f))

pub fits_each : (grid : Ladders) (seats : ℕ → ℕ → ℕ → ℕ) (place : Place) (class n leg : ℕ)
    → n ≤ free grid seats place class → place.from ≤ leg → leg ≤ place.to
    → n ≤ free_on (ladder_at grid place.flight leg) (seats place.flight leg) class
fits_each grid seats place class n leg h low high =
    let forwards : nat_le place.from place.to ≡ true = le-leb place.from place.to (omega arith) in
    let f : ℕ → ℕ = λ at. free_on (ladder_at grid place.flight at) (seats place.flight at) class in
    let free_is : n ≤ least f place.from (place.to - place.from) = rw forwards at h in
    omega (arith, free_is, least_le f place.from (place.to - place.from) leg low (omega arith))

-- what the limits leave on a leg behind
pub fits_behind : (old new : Counted) (flight from leg at class n m : ℕ) → leg < at
    → Changes plus old new (part flight from leg) class m
    → n ≤ free_on (ladder_at (limits_of old) flight at) (table_of old flight at) class
    → n ≤ free_on (ladder_at (limits_of new) flight at) (table_of new flight at) class
fits_behind old new flight from leg at class n m lt h fits =
    let same = free_same (ladder_at (limits_of old) flight at) (table_of new flight at) (table_of old flight at) class (same_behind plus plus_none old new flight from leg at class m lt h) in
    rw (h.limits, same) fits

-- ---- seats that are held, on each leg

pub each_leg_at : (p : ℕ → Bool) (from n leg : ℕ) → each_leg p from n ≡ true → from ≤ leg → leg ≤ from + n
    → p leg ≡ true
each_leg_at p from zero leg h low high = let e : leg ≡ from = omega arith in ap p e ∙ h
each_leg_at p from (suc n) leg h low high =
    let both = and_parts (each_leg p from n) (p (from + suc n)) h in
    of (leg == from + suc n) refl both.1 (λ (le : leg ≤ from + n). each_leg_at p from n leg both.0 low le)
  where
    of : (b : Bool) → (leg == from + suc n) ≡ b → p (from + suc n) ≡ true → (leg ≤ from + n → p leg ≡ true)
        → p leg ≡ true
    of true e last below = ap p (eqb-true leg (from + suc n) e) ∙ last
    of false e last below = let ne = eqb-false leg (from + suc n) e in below (omega arith)

pub held_each : (grid : Ladders) (seats : ℕ → ℕ → ℕ → ℕ) (place : Place) (class n leg : ℕ)
    → IsTrue (holds grid seats place class n) → place.from ≤ leg → leg ≤ place.to → n ≤ seats place.flight leg class
held_each grid seats place class n leg h low high =
    let both = and_parts (nat_le place.from place.to) (each_leg (λ at. leg_holds (ladder_at grid place.flight at) (seats place.flight at) class n) place.from (place.to - place.from)) h in
    let here = each_leg_at (λ at. leg_holds (ladder_at grid place.flight at) (seats place.flight at) class n) place.from (place.to - place.from) leg both.1 low (omega arith) in
    leb-true n (seats place.flight leg class) (and_parts (has_class (ladder_at grid place.flight leg) class) (nat_le n (seats place.flight leg class)) here).1

pub held_forwards : (grid : Ladders) (seats : ℕ → ℕ → ℕ → ℕ) (place : Place) (class n : ℕ)
    → IsTrue (holds grid seats place class n) → place.from ≤ place.to
held_forwards grid seats place class n h =
    leb-true place.from place.to (and_parts (nat_le place.from place.to) (each_leg (λ at. leg_holds (ladder_at grid place.flight at) (seats place.flight at) class n) place.from (place.to - place.from)) h).0

pub held_behind : (old new : Counted) (flight from leg at class n m : ℕ) → leg < at
    → Changes less old new (part flight from leg) class m → n ≤ table_of old flight at class
    → n ≤ table_of new flight at class
held_behind old new flight from leg at class n m lt h fits = omega (arith, fits, same_behind less less_none old new flight from leg at class m lt h class)

-- ---- one more leg, one more flight

pub steps_push : (xs : List LegSeats) (x : LegSeats) (ladders : List (Option Steps)) (i : ℕ) (o : Option Steps)
    → map steps_in xs ≡ take i (map steps_of ladders) → i < length ladders → x.steps ≡ steps_of o
    → o ≡ get_or ladders i o
    → map steps_in (xs ++ x ∷ []) ≡ take (i + 1) (map steps_of ladders)
steps_push xs x ladders i o h lt e is =
    map-append steps_in xs (x ∷ []) ∙ ap (λ (s : List Steps). s ++ x.steps ∷ []) h ∙ ap (λ (s : Steps). take i (map steps_of ladders) ++ s ∷ []) (e ∙ here)
    ∙ sym (take_more (map steps_of ladders) i (steps_of o) (rw length-map lt))
  where
    here : steps_of o ≡ get_or (map steps_of ladders) i (steps_of o)
    here = ap steps_of is ∙ sym (get_or-map steps_of ladders i o (steps_of o) lt)

pub flights_push : (xs : Counted) (x : List LegSeats) (grid : Ladders) (i : ℕ) (legs : List Steps)
    → limits_of xs ≡ take i grid → i < length grid → map steps_in x ≡ legs → legs ≡ get_or grid i legs
    → limits_of (xs ++ x ∷ []) ≡ take (i + 1) grid
flights_push xs x grid i legs h lt e is =
    map-append (λ (l : List LegSeats). map steps_in l) xs (x ∷ []) ∙ ap (λ (g : Ladders). g ++ map steps_in x ∷ []) h ∙ ap (λ (l : List Steps). take i grid ++ l ∷ []) (e ∙ is) ∙ sym (take_more grid i legs lt)

pub fresh_push : (xs : Counted) (x : List LegSeats) → ((f at : ℕ) → IsFresh (leg_at xs f at))
    → ((at : ℕ) → IsFresh (leg_in x at)) → (f at : ℕ) → IsFresh (leg_at (xs ++ x ∷ []) f at)
fresh_push xs x all here = each_push xs x [] (λ (legs : List LegSeats). (at : ℕ) → IsFresh (leg_in legs at)) all here

-- ---- a leg on which something is set

map_leg_set : (items : List LegSeats) (leg : ℕ) (x : LegSeats) (setting : Setting) → leg < length items
    → x.steps ≡ with_setting (leg_in items leg).steps setting
    → map steps_in (set items leg x) ≡ leg_set (map steps_in items) leg setting
map_leg_set [] leg x setting inside h = absurd (omega arith)
map_leg_set (l ∷ items) zero x setting inside h = ap (λ (s : Steps). s ∷ map steps_in items) h
map_leg_set (l ∷ items) (suc leg) x setting inside h = ap (λ (s : List Steps). l.steps ∷ s) (map_leg_set items leg x setting (omega arith) h)

map_flight_set : (items : Counted) (flight : ℕ) (xs : List LegSeats) (leg : ℕ) (setting : Setting) → flight < length items
    → map steps_in xs ≡ leg_set (map steps_in (legs_in items flight)) leg setting
    → limits_of (set items flight xs) ≡ ladders_set (limits_of items) flight leg setting
map_flight_set [] flight xs leg setting inside h = absurd (omega arith)
map_flight_set (l ∷ items) zero xs leg setting inside h = ap (λ (s : List Steps). s ∷ limits_of items) h
map_flight_set (l ∷ items) (suc flight) xs leg setting inside h = ap (λ (s : Ladders). map steps_in l ∷ s) (map_flight_set items flight xs leg setting (omega arith) h)

leg_sets_at : (items : List LegSeats) (leg : ℕ) (x : LegSeats) (setting : Setting) → leg < length items
    → LegSets (leg_in items leg) x setting → FlightSets items (set items leg x) leg setting
leg_sets_at items leg x setting inside h = record {
  limits = map_leg_set items leg x setting inside h.steps;
  seats = λ at k. ap (λ (l : LegSeats). held_on l k) (at_set items leg at x no_leg inside) ∙ seats_case at k (at == leg) refl;
  kept = λ all at. let P : LegSeats → Type 0 = λ l. KeepsLimits l in subst P (sym (at_set items leg at x no_leg inside)) (kept_case all at (at == leg));
}
  where
    seats_case : (at k : ℕ) (b : Bool) → (at == leg) ≡ b
        → held_on (cond b x (leg_in items at)) k ≡ held_on (leg_in items at) k
    seats_case at k true e = h.seats k ∙ ap (λ (i : ℕ). held_on (leg_in items i) k) (sym (eqb-true at leg e))
    seats_case at k false e = refl

    kept_case : ((i : ℕ) → KeepsLimits (leg_in items i)) → (at : ℕ) (b : Bool)
        → KeepsLimits (cond b x (leg_in items at))
    kept_case all at true = h.kept
    kept_case all at false = all at

pub flight_sets : (items now : List LegSeats) (leg : ℕ) (old new : LegSeats) (setting : Setting) → items ≡ now
    → leg < length items → old ≡ get_or items leg no_leg → LegSets old new setting
    → FlightSets now (set items leg new) leg setting
flight_sets items now leg old new setting same inside is h =
    let here : LegSets (leg_in items leg) new setting = let P : LegSeats → Type 0 = λ x. LegSets x new setting in subst P (is ∙ sym (unwrap_or-slice_get items leg no_leg)) h in
    let P : List LegSeats → Type 0 = λ x. FlightSets x (set items leg new) leg setting in
    subst P same (leg_sets_at items leg new setting inside here)

sets_here : (items : Counted) (flight : ℕ) (old new : List LegSeats) (leg : ℕ) (setting : Setting)
    → old ≡ get_or items flight [] → FlightSets old new leg setting
    → FlightSets (legs_in items flight) new leg setting
sets_here items flight old new leg setting is h =
    let P : List LegSeats → Type 0 = λ x. FlightSets x new leg setting in
    subst P (is ∙ sym (unwrap_or-slice_get items flight [])) h

flight_sets_at : (items : Counted) (flight : ℕ) (new : List LegSeats) (leg : ℕ) (setting : Setting) → flight < length items
    → FlightSets (legs_in items flight) new leg setting
    → SetsOn items (set items flight new) flight leg setting
flight_sets_at items flight new leg setting inside h = record {
  limits = map_flight_set items flight new leg setting inside h.limits;
  seats = λ f at k. ap (λ (l : List LegSeats). held_on (leg_in l at) k) (at_set items flight f new [] inside) ∙ seats_case f at k (f == flight) refl;
}
  where
    seats_case : (f at k : ℕ) (b : Bool) → (f == flight) ≡ b
        → held_on (leg_in (cond b new (legs_in items f)) at) k ≡ table_of items f at k
    seats_case f at k true e = h.seats at k ∙ ap (λ (i : ℕ). table_of items i at k) (sym (eqb-true f flight e))
    seats_case f at k false e = refl

pub all_sets : (items now : Counted) (flight : ℕ) (old new : List LegSeats) (leg : ℕ) (setting : Setting) → items ≡ now
    → flight < length items → old ≡ get_or items flight [] → FlightSets old new leg setting
    → SetsOn now (set items flight new) flight leg setting
all_sets items now flight old new leg setting same inside is h =
    let P : Counted → Type 0 = λ x. SetsOn x (set items flight new) flight leg setting in
    subst P same (flight_sets_at items flight new leg setting inside (sets_here items flight old new leg setting is h))

pub within_sets : (items : Counted) (flight : ℕ) (old new : List LegSeats) (leg : ℕ) (setting : Setting)
    → flight < length items → old ≡ get_or items flight [] → FlightSets old new leg setting
    → IsWithinLimits items → IsWithinLimits (set items flight new)
within_sets items flight old new leg setting inside is h w = record {
  leg_kept = λ f at. let P : List LegSeats → Type 0 = λ l. KeepsLimits (leg_in l at) in subst P (sym (at_set items flight f new [] inside)) (kept_case f at (f == flight));
}
  where
    kept_case : (f at : ℕ) (b : Bool) → KeepsLimits (leg_in (cond b new (legs_in items f)) at)
    kept_case f at true = (sets_here items flight old new leg setting is h).kept (λ i. w.leg_kept flight i) at
    kept_case f at false = w.leg_kept f at
