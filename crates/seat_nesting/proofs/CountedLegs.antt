-- The counters' legs, and what is seen of them.
use Rattle.std.proofs.Common.{◌≡◌, ◌==◌, ℕ, zero, suc, ◌+◌, ◌-◌, ◌<◌, ◌≤◌, Bool, true, false, cond, ◌&&◌, nat_lt, IsTrue, Option, List, [], ◌∷◌, ◌++◌, length, replicate, map, take, get_or, set, unwrap_or, refl, ap, sym, subst, ◌∙◌, arith}
use Rattle.std.specs.List.{slice_get}
use Rattle.std.proofs.lemmas.Bool.Decides.{nat_tests}
use Rattle.std.proofs.lemmas.List.Sums.{sum_by-cons, sum_by_push}
use Rattle.std.proofs.lemmas.List.{map-set, map-append, length-map, take_all}
use Rattle.std.proofs.lemmas.Option.{unwrap_or-slice_get}
use Rattle.airline_base.specs.declared.place.Place.{Place}
use Rattle.seat_nesting.specs.Nesting.{Steps, Ladders, Fits, IsLegLadder, steps_of, has_class, free_on, ladder_at, legs_of}
use Rattle.seat_nesting.specs.Counting.{LegSeats, Counted, leg_of, leg_in, legs_in, leg_at, limits_of, table_of, no_leg, KeepsLimits, IsFresh, IsRank, IsWithinLimits, LegChanges, FlightChanges, OneLegChanges, plus, less}
use Rattle.seat_nesting.specs.OwnLadders.{Pool, CountedLeg, pool_of, steps_by, leg_seen, held_at, with_held, no_counted, counted_in, counted_at, legs_seen, all_seen, limits_in, all_limits, limits_at, put, AreCounters, HaveOwn}
use Rattle.seat_nesting.specs.declared.limits.Limits.{Limits}
use Rattle.seat_nesting.specs.declared.limits.Limits.TheVariants.{Absent, Shared, Own}
use Rattle.seat_nesting.proofs.CountChanges.{map_set, flight_changes, one_leg_changes, still_within, plus_none, less_none, each_push, steps_push, flights_push, fresh_push}
use Rattle.seat_nesting.proofs.LegCounting.{few_seen, takes_seen, gives_seen, seats_seen, free_lacking, count_lacking, is_fresh, kept_none, count_none}
use Rattle.seat_nesting.proofs.LimitChanges.{ladder_seen}
use Rattle.seat_nesting.proofs.FlatCounts.{at_map, some_inside}

-- ---- one of many

abbrev pub legs_at : List (List CountedLeg) → ℕ → List CountedLeg
legs_at flights flight = unwrap_or (slice_get flights flight) []

pub flight_seen : (pool : Pool) (flights : List (List CountedLeg)) (flight : ℕ)
    → legs_in (all_seen pool flights) flight ≡ legs_seen pool (legs_at flights flight)
flight_seen pool flights flight = at_map (legs_seen pool) flights flight []

pub one_seen : (pool : Pool) (legs : List CountedLeg) (leg : ℕ)
    → leg_in (legs_seen pool legs) leg ≡ leg_seen pool (counted_in legs leg)
one_seen pool legs leg = at_map (leg_seen pool) legs leg no_counted

pub leg_seen_at : (pool : Pool) (flights : List (List CountedLeg)) (flight leg : ℕ)
    → leg_at (all_seen pool flights) flight leg ≡ leg_seen pool (counted_at flights flight leg)
leg_seen_at pool flights flight leg = ap (λ (legs : List LegSeats). leg_in legs leg) (flight_seen pool flights flight) ∙ one_seen pool (legs_at flights flight) leg

abbrev limits_by : CountedLeg → Limits
limits_by leg = leg.limits

pub limits_seen_at : (flights : List (List CountedLeg)) (flight leg : ℕ)
    → limits_at (all_limits flights) flight leg ≡ (counted_at flights flight leg).limits
limits_seen_at flights flight leg =
    ap (λ (limits : List Limits). unwrap_or (slice_get limits leg) Absent) (at_map limits_in flights flight []) ∙ at_map limits_by (legs_at flights flight) leg no_counted

-- as many legs are seen as there are
pub length_seen : (pool : Pool) (flights : List (List CountedLeg)) (flight : ℕ)
    → length (legs_of (limits_of (all_seen pool flights)) flight) ≡ length (legs_at flights flight)
length_seen pool [] flight = refl
length_seen pool (legs ∷ flights) zero = rw (length-map, length-map) refl
length_seen pool (legs ∷ flights) (suc flight) = length_seen pool flights flight

-- the steps of a leg, in the two ways in which they are named
pub steps_seen : (pool : Pool) (flights : List (List CountedLeg)) (now : Counted) (flight leg : ℕ)
    → all_seen pool flights ≡ now
    → steps_by pool (counted_at flights flight leg).limits ≡ ladder_at (limits_of now) flight leg
steps_seen pool flights now flight leg e =
    sym (ap (λ (c : Counted). ladder_at (limits_of c) flight leg) (sym e) ∙ ladder_seen (all_seen pool flights) flight leg ∙ ap (λ (l : LegSeats). l.steps) (leg_seen_at pool flights flight leg))

-- a leg that has steps is there
pub leg_there : (pool : Pool) (legs : List CountedLeg) (leg : ℕ)
    → 0 < length (steps_by pool (counted_in legs leg).limits) → leg < length legs
leg_there pool [] leg h = absurd (omega (arith, h))
leg_there pool (l ∷ legs) zero h = omega arith
leg_there pool (l ∷ legs) (suc leg) h = let below = leg_there pool legs leg h in omega (arith, below)

-- ---- a leg that is written

pub put_seen : (pool : Pool) (flights : List (List CountedLeg)) (flight leg : ℕ) (x : CountedLeg)
    → all_seen pool (put flights flight leg x)
    ≡ set (all_seen pool flights) flight (set (legs_seen pool (legs_at flights flight)) leg (leg_seen pool x))
put_seen pool flights flight leg x =
    map-set (legs_seen pool) flights flight (set (legs_at flights flight) leg x)
    ∙ ap (set (all_seen pool flights) flight) (map-set (leg_seen pool) (legs_at flights flight) leg x)

flight_put : (op : ℕ → ℕ → ℕ) → ((a : ℕ) → op a 0 ≡ a)
    → (pool : Pool) (flights : List (List CountedLeg)) (flight leg : ℕ) (x : LegSeats) (class n : ℕ)
    → leg < length (legs_at flights flight)
    → LegChanges op (leg_at (all_seen pool flights) flight leg) x class n
    → FlightChanges op (legs_in (all_seen pool flights) flight) (set (legs_seen pool (legs_at flights flight)) leg x) leg
    class n
flight_put op none pool flights flight leg x class n inside h =
    let legs : List LegSeats = legs_seen pool (legs_at flights flight) in
    let here : LegChanges op (leg_in legs leg) x class n = subst (λ (l : List LegSeats). LegChanges op (leg_in l leg) x class n) (flight_seen pool flights flight) h in
    let lt : leg < length legs = rw length-map inside in
    subst (λ (l : List LegSeats). FlightChanges op l (set legs leg x) leg class n) (sym (flight_seen pool flights flight)) (flight_changes op none legs leg x class n lt here)

pub put_changes : (op : ℕ → ℕ → ℕ) → ((a : ℕ) → op a 0 ≡ a)
    → (pool : Pool) (flights : List (List CountedLeg)) (flight leg : ℕ) (x : CountedLeg) (class n : ℕ)
    → flight < length flights → leg < length (legs_at flights flight)
    → LegChanges op (leg_at (all_seen pool flights) flight leg) (leg_seen pool x) class n
    → OneLegChanges op (all_seen pool flights) (all_seen pool (put flights flight leg x)) flight leg class n
put_changes op none pool flights flight leg x class n there inside h =
    let lt : flight < length (all_seen pool flights) = rw length-map there in
    let new = set (legs_seen pool (legs_at flights flight)) leg (leg_seen pool x) in
    subst (λ (c : Counted). OneLegChanges op (all_seen pool flights) c flight leg class n) (sym (put_seen pool flights flight leg x))
    (one_leg_changes op none (all_seen pool flights) flight new leg class n lt (flight_put op none pool flights flight leg (leg_seen pool x) class n inside h))

pub put_within : (op : ℕ → ℕ → ℕ) → ((a : ℕ) → op a 0 ≡ a)
    → (pool : Pool) (flights : List (List CountedLeg)) (flight leg : ℕ) (x : CountedLeg) (class n : ℕ)
    → flight < length flights → leg < length (legs_at flights flight)
    → LegChanges op (leg_at (all_seen pool flights) flight leg) (leg_seen pool x) class n
    → IsWithinLimits (all_seen pool flights) → IsWithinLimits (all_seen pool (put flights flight leg x))
put_within op none pool flights flight leg x class n there inside h w =
    let lt : flight < length (all_seen pool flights) = rw length-map there in
    let new = set (legs_seen pool (legs_at flights flight)) leg (leg_seen pool x) in
    subst (λ (c : Counted). IsWithinLimits c) (sym (put_seen pool flights flight leg x))
    (still_within op (all_seen pool flights) flight new leg class n lt (flight_put op none pool flights flight leg (leg_seen pool x) class n inside h) w)

-- the limits stand where they stood
pub put_limits : (flights : List (List CountedLeg)) (flight leg : ℕ) (x : CountedLeg) → flight < length flights
    → leg < length (legs_at flights flight) → x.limits ≡ (counted_at flights flight leg).limits
    → all_limits (put flights flight leg x) ≡ all_limits flights
put_limits flights flight leg x there inside e =
    map_set limits_in flights flight (set (legs_at flights flight) leg x) [] (map_set limits_by (legs_at flights flight) leg x no_counted e inside) there

-- ---- seats that are taken and given at a rank

-- so many more, or fewer
abbrev pub with_change : (ℕ → ℕ → ℕ) → CountedLeg → ℕ → ℕ → CountedLeg
with_change op c rank n = with_held c rank (op (held_at c rank) n)

-- what a call that writes of a leg knows
pub record Meets (pool : Pool) (places : ℕ) (flights : List (List CountedLeg)) (now : Counted) : Type 0 where
  pub counters : AreCounters pool places flights
  pub seen : all_seen pool flights ≡ now

pub meets : (pool : Pool) (places : ℕ) (flights : List (List CountedLeg)) (now : Counted)
    → AreCounters pool places flights → all_seen pool flights ≡ now → Meets pool places flights now
meets pool places flights now counters e = record { counters = counters; seen = e }

-- the leg that is written, as it is seen
pub met_leg : (pool : Pool) (places : ℕ) (flights : List (List CountedLeg)) (now : Counted) (flight leg : ℕ)
    → Meets pool places flights now → leg_seen pool (counted_at flights flight leg) ≡ leg_at now flight leg
met_leg pool places flights now flight leg m = sym (leg_seen_at pool flights flight leg) ∙ ap (λ (c : Counted). leg_at c flight leg) m.seen

pub met_kept : (pool : Pool) (places : ℕ) (flights : List (List CountedLeg)) (now : Counted) (flight leg : ℕ)
    → Meets pool places flights now → KeepsLimits (leg_at now flight leg)
met_kept pool places flights now flight leg m = subst (λ (c : Counted). KeepsLimits (leg_at c flight leg)) m.seen (m.counters.kept.leg_kept flight leg)

-- a leg that has steps is there
pub met_inside : (pool : Pool) (places : ℕ) (flights : List (List CountedLeg)) (now : Counted) (flight leg : ℕ)
    → Meets pool places flights now → 0 < length (leg_at now flight leg).steps → leg < length (legs_at flights flight)
met_inside pool places flights now flight leg m some =
    let same : length (steps_by pool (counted_at flights flight leg).limits) ≡ length (leg_at now flight leg).steps = ap (λ (l : LegSeats). length l.steps) (met_leg pool places flights now flight leg m) in
    leg_there pool (legs_at flights flight) leg (omega (arith, same, some))

pub flight_there : (flights : List (List CountedLeg)) (flight leg : ℕ) → leg < length (legs_at flights flight)
    → flight < length flights
flight_there flights flight leg inside = some_inside flights flight [] (λ (legs : List CountedLeg). length legs) leg refl inside

-- the rank has a number
pub rank_counted : (pool : Pool) (places : ℕ) (flights : List (List CountedLeg)) (now : Counted) (flight leg class rank : ℕ)
    → Meets pool places flights now → IsRank (leg_at now flight leg).steps class rank
    → rank < length (counted_at flights flight leg).held
rank_counted pool places flights now flight leg class rank m is =
    let kept = met_kept pool places flights now flight leg m in
    omega (arith, is.inside, kept.counted, ap (λ (l : LegSeats). length l.held) (met_leg pool places flights now flight leg m))

pub rank_some : (steps : Steps) (class rank : ℕ) → IsRank steps class rank → 0 < length steps
rank_some steps class rank is = omega (arith, is.inside)

-- ---- what a changed leg is among all

changed_on : (op : ℕ → ℕ → ℕ) → ((a : ℕ) → op a 0 ≡ a)
    → (pool : Pool) (places : ℕ) (flights : List (List CountedLeg)) (now : Counted) (flight leg class n : ℕ)
    (x : CountedLeg) → Meets pool places flights now → leg < length (legs_at flights flight)
    → LegChanges op (leg_at now flight leg) (leg_seen pool x) class n
    → OneLegChanges op now (all_seen pool (put flights flight leg x)) flight leg class n
changed_on op none pool places flights now flight leg class n x m inside h =
    let here : LegChanges op (leg_at (all_seen pool flights) flight leg) (leg_seen pool x) class n = subst (λ (c : Counted). LegChanges op (leg_at c flight leg) (leg_seen pool x) class n) (sym m.seen) h in
    subst (λ (c : Counted). OneLegChanges op c (all_seen pool (put flights flight leg x)) flight leg class n) m.seen
    (put_changes op none pool flights flight leg x class n (flight_there flights flight leg inside) inside here)

changed_counters : (op : ℕ → ℕ → ℕ) → ((a : ℕ) → op a 0 ≡ a)
    → (pool : Pool) (places : ℕ) (flights : List (List CountedLeg)) (now : Counted) (flight leg class n : ℕ)
    (x : CountedLeg) → Meets pool places flights now → leg < length (legs_at flights flight)
    → x.limits ≡ (counted_at flights flight leg).limits
    → LegChanges op (leg_at now flight leg) (leg_seen pool x) class n
    → AreCounters pool places (put flights flight leg x)
changed_counters op none pool places flights now flight leg class n x m inside keeps h =
    let here : LegChanges op (leg_at (all_seen pool flights) flight leg) (leg_seen pool x) class n = subst (λ (c : Counted). LegChanges op (leg_at c flight leg) (leg_seen pool x) class n) (sym m.seen) h in
    let there = flight_there flights flight leg inside in
    let limits = put_limits flights flight leg x there inside keeps in
    record {
      kept = put_within op none pool flights flight leg x class n there inside here m.counters.kept;
      owned = subst (λ (l : List (List Limits)). HaveOwn (length pool.own) places l) (sym limits) m.counters.owned;
      numbered = subst (λ (l : List (List Limits)). HaveOwn (length pool.own) 4294967295 l) (sym limits) m.counters.numbered;
    }

-- ---- taking

pub take_fits : (pool : Pool) (places : ℕ) (flights : List (List CountedLeg)) (now : Counted) (flight leg class rank n : ℕ)
    → Meets pool places flights now → IsRank (leg_at now flight leg).steps class rank
    → n ≤ free_on (ladder_at (limits_of now) flight leg) (table_of now flight leg) class
    → held_at (counted_at flights flight leg) rank + n ≤ 999
take_fits pool places flights now flight leg class rank n m is fits =
    let here : n ≤ free_on (leg_at now flight leg).steps (table_of now flight leg) class = subst (λ (s : Steps). n ≤ free_on s (table_of now flight leg) class) (ladder_seen now flight leg) fits in
    few_seen (leg_seen pool (counted_at flights flight leg)) (leg_at now flight leg) class rank n (met_leg pool places flights now flight leg m) (met_kept pool places flights now flight leg m) is here

take_leg : (pool : Pool) (places : ℕ) (flights : List (List CountedLeg)) (now : Counted) (flight leg class rank n : ℕ)
    → Meets pool places flights now → IsRank (leg_at now flight leg).steps class rank
    → n ≤ free_on (ladder_at (limits_of now) flight leg) (table_of now flight leg) class
    → LegChanges plus (leg_at now flight leg) (leg_seen pool (with_change plus (counted_at flights flight leg) rank n))
    class n
take_leg pool places flights now flight leg class rank n m is fits =
    let here : n ≤ free_on (leg_at now flight leg).steps (table_of now flight leg) class = subst (λ (s : Steps). n ≤ free_on s (table_of now flight leg) class) (ladder_seen now flight leg) fits in
    takes_seen (leg_seen pool (counted_at flights flight leg)) (leg_at now flight leg) class rank n (met_leg pool places flights now flight leg m) (met_kept pool places flights now flight leg m) is here

pub takes_on : (pool : Pool) (places : ℕ) (flights : List (List CountedLeg)) (now : Counted) (flight leg class rank n : ℕ)
    (new : List (List CountedLeg)) → Meets pool places flights now → IsRank (leg_at now flight leg).steps class rank
    → n ≤ free_on (ladder_at (limits_of now) flight leg) (table_of now flight leg) class
    → new ≡ put flights flight leg (with_change plus (counted_at flights flight leg) rank n)
    → OneLegChanges plus now (all_seen pool new) flight leg class n
takes_on pool places flights now flight leg class rank n new m is fits e =
    let inside = met_inside pool places flights now flight leg m (rank_some (leg_at now flight leg).steps class rank is) in
    subst (λ (f : List (List CountedLeg)). OneLegChanges plus now (all_seen pool f) flight leg class n) (sym e)
    (changed_on plus plus_none pool places flights now flight leg class n (with_change plus (counted_at flights flight leg) rank n) m inside (take_leg pool places flights now flight leg class rank n m is fits))

pub taken_counters : (pool : Pool) (places : ℕ) (flights : List (List CountedLeg)) (now : Counted)
    (flight leg class rank n : ℕ) (new : List (List CountedLeg)) → Meets pool places flights now
    → IsRank (leg_at now flight leg).steps class rank
    → n ≤ free_on (ladder_at (limits_of now) flight leg) (table_of now flight leg) class
    → new ≡ put flights flight leg (with_change plus (counted_at flights flight leg) rank n)
    → AreCounters pool places new
taken_counters pool places flights now flight leg class rank n new m is fits e =
    let inside = met_inside pool places flights now flight leg m (rank_some (leg_at now flight leg).steps class rank is) in
    subst (λ (f : List (List CountedLeg)). AreCounters pool places f) (sym e)
    (changed_counters plus plus_none pool places flights now flight leg class n (with_change plus (counted_at flights flight leg) rank n) m inside refl (take_leg pool places flights now flight leg class rank n m is fits))

-- ---- giving

give_leg : (pool : Pool) (places : ℕ) (flights : List (List CountedLeg)) (now : Counted) (flight leg class rank n : ℕ)
    → Meets pool places flights now → IsRank (leg_at now flight leg).steps class rank
    → LegChanges less (leg_at now flight leg) (leg_seen pool (with_change less (counted_at flights flight leg) rank n))
    class n
give_leg pool places flights now flight leg class rank n m is =
    gives_seen (leg_seen pool (counted_at flights flight leg)) (leg_at now flight leg) class rank n (met_leg pool places flights now flight leg m) (met_kept pool places flights now flight leg m) is

pub give_fits : (pool : Pool) (places : ℕ) (flights : List (List CountedLeg)) (now : Counted) (flight leg class rank n : ℕ)
    → Meets pool places flights now → IsRank (leg_at now flight leg).steps class rank
    → n ≤ table_of now flight leg class → n ≤ held_at (counted_at flights flight leg) rank
give_fits pool places flights now flight leg class rank n m is fits =
    let held = seats_seen (leg_seen pool (counted_at flights flight leg)) (leg_at now flight leg) class rank (met_leg pool places flights now flight leg m) (met_kept pool places flights now flight leg m) is in
    omega (arith, held, fits)

pub gives_on : (pool : Pool) (places : ℕ) (flights : List (List CountedLeg)) (now : Counted) (flight leg class rank n : ℕ)
    (new : List (List CountedLeg)) → Meets pool places flights now → IsRank (leg_at now flight leg).steps class rank
    → new ≡ put flights flight leg (with_change less (counted_at flights flight leg) rank n)
    → OneLegChanges less now (all_seen pool new) flight leg class n
gives_on pool places flights now flight leg class rank n new m is e =
    let inside = met_inside pool places flights now flight leg m (rank_some (leg_at now flight leg).steps class rank is) in
    subst (λ (f : List (List CountedLeg)). OneLegChanges less now (all_seen pool f) flight leg class n) (sym e)
    (changed_on less less_none pool places flights now flight leg class n (with_change less (counted_at flights flight leg) rank n) m inside (give_leg pool places flights now flight leg class rank n m is))

pub given_counters : (pool : Pool) (places : ℕ) (flights : List (List CountedLeg)) (now : Counted)
    (flight leg class rank n : ℕ) (new : List (List CountedLeg)) → Meets pool places flights now
    → IsRank (leg_at now flight leg).steps class rank
    → new ≡ put flights flight leg (with_change less (counted_at flights flight leg) rank n)
    → AreCounters pool places new
given_counters pool places flights now flight leg class rank n new m is e =
    let inside = met_inside pool places flights now flight leg m (rank_some (leg_at now flight leg).steps class rank is) in
    subst (λ (f : List (List CountedLeg)). AreCounters pool places f) (sym e)
    (changed_counters less less_none pool places flights now flight leg class n (with_change less (counted_at flights flight leg) rank n) m inside refl (give_leg pool places flights now flight leg class rank n m is))

-- ---- a leg that is not there, or lacks the class, takes and gives no seat

pub none_changes : (op : ℕ → ℕ → ℕ) → ((a : ℕ) → op a 0 ≡ a) → (now new : Counted) (flight leg class n : ℕ) → new ≡ now
    → n ≡ 0 → OneLegChanges op now new flight leg class n
none_changes op none now new flight leg class n e zero_is =
    subst (λ (c : Counted). OneLegChanges op now c flight leg class n) (sym e) (record { limits = refl; seats = λ f at k. pick ((f == flight) && (at == leg) && (class == k)) (table_of now f at k) })
  where
    pick : (b : Bool) (m : ℕ) → m ≡ op m (cond b n 0)
    pick true m = sym (none m) ∙ ap (op m) (sym zero_is)
    pick false m = sym (none m)

-- ---- seats that are not there to take or give

pub none_taken : (now new : Counted) (flight leg class n : ℕ) → new ≡ now
    → has_class (leg_at now flight leg).steps class ≡ false
    → n ≤ free_on (ladder_at (limits_of now) flight leg) (table_of now flight leg) class
    → OneLegChanges plus now new flight leg class n
none_taken now new flight leg class n e lacks fits =
    let here : n ≤ free_on (leg_at now flight leg).steps (table_of now flight leg) class = subst (λ (s : Steps). n ≤ free_on s (table_of now flight leg) class) (ladder_seen now flight leg) fits in
    let none = free_lacking (leg_at now flight leg).steps (table_of now flight leg) class lacks in
    none_changes plus plus_none now new flight leg class n e (omega (arith, none, here))

pub none_given : (now new : Counted) (flight leg class n : ℕ) → new ≡ now
    → has_class (leg_at now flight leg).steps class ≡ false → n ≤ table_of now flight leg class
    → OneLegChanges less now new flight leg class n
none_given now new flight leg class n e lacks fits =
    let none = count_lacking (leg_at now flight leg).steps (leg_at now flight leg).held class lacks in
    none_changes less less_none now new flight leg class n e (omega (arith, none, fits))

-- ---- a leg that is looked at

pub same_pool : (shared own all some : List Steps) → all ≡ shared → some ≡ own → pool_of all some ≡ pool_of shared own
same_pool shared own all some e f = ap (λ (s : List Steps). pool_of s some) e ∙ ap (λ (o : List Steps). pool_of shared o) f

pub leg_found : (pool : Pool) (flights : List (List CountedLeg)) (now : Counted) (flight leg : ℕ) (x : CountedLeg)
    (ladders : Pool) (steps : Steps) → ladders ≡ pool → x ≡ counted_at flights flight leg
    → steps ≡ steps_by ladders x.limits → all_seen pool flights ≡ now → leg_of steps x.held ≡ leg_at now flight leg
leg_found pool flights now flight leg x ladders steps b is e seen =
    ap (λ (s : Steps). leg_of s x.held) (e ∙ ap (λ (p : Pool). steps_by p x.limits) b) ∙ ap (leg_seen pool) is
    ∙ sym (leg_seen_at pool flights flight leg) ∙ ap (λ (c : Counted). leg_at c flight leg) seen

pub leg_kept : (pool : Pool) (flights : List (List CountedLeg)) (flight leg : ℕ) (x : CountedLeg) (ladders : Pool)
    (steps : Steps) → ladders ≡ pool → x ≡ counted_at flights flight leg → steps ≡ steps_by ladders x.limits
    → IsWithinLimits (all_seen pool flights) → KeepsLimits (leg_of steps x.held)
leg_kept pool flights flight leg x ladders steps b is e w = subst KeepsLimits (sym (leg_found pool flights (all_seen pool flights) flight leg x ladders steps b is e refl)) (w.leg_kept flight leg)

pub ladder_is : (pool : Pool) (flights : List (List CountedLeg)) (now : Counted) (flight leg : ℕ) (x : CountedLeg)
    (ladders : Pool) → ladders ≡ pool → x ≡ counted_at flights flight leg → all_seen pool flights ≡ now
    → steps_by ladders x.limits ≡ ladder_at (limits_of now) flight leg
ladder_is pool flights now flight leg x ladders b is seen =
    ap (λ (p : Pool). steps_by p x.limits) b ∙ ap (λ (c : CountedLeg). steps_by pool c.limits) is ∙ steps_seen pool flights now flight leg seen

pub no_ladder : (pool : Pool) (flights : List (List CountedLeg)) (now : Counted) (flight leg : ℕ)
    → counted_at flights flight leg ≡ no_counted → all_seen pool flights ≡ now → ladder_at (limits_of now) flight leg ≡ []
no_ladder pool flights now flight leg is seen =
    sym (steps_seen pool flights now flight leg seen) ∙ ap (λ (c : CountedLeg). steps_by pool c.limits) is

pub fits_there : (pool : Pool) (flights : List (List CountedLeg)) (now : Counted) (place : Place) (at n : ℕ)
    → all_seen pool flights ≡ now → at ≡ place.to → n ≡ length (legs_at flights place.flight) → place.from ≤ place.to
    → (IsTrue (nat_lt at n) → Fits (limits_of now) place) × (Fits (limits_of now) place → IsTrue (nat_lt at n))
fits_there pool flights now place at n seen to is le =
    let count : n ≡ length (legs_of (limits_of now) place.flight) =
    is ∙ sym (length_seen pool flights place.flight) ∙ ap (λ (c : Counted). length (legs_of (limits_of c) place.flight)) seen in
    (λ h. (le, grind (arith, nat_tests, h, to, count)), λ f. let lt = f.1 in grind (arith, nat_tests, lt, to, count))
