-- Own ladders: what is set on a leg changes the steps of that leg alone.
use Rattle.std.proofs.Common.{◌≡◌, ◌≢◌, ◌==◌, ℕ, zero, suc, ◌+◌, ◌-◌, ◌<◌, ◌≤◌, Bool, true, false, if◌then◌else◌, cond, ◌&&◌, Option, Some, None, ltb, List, [], ◌∷◌, ◌++◌, length, map, get_or, set, unwrap_or, refl, ap, sym, subst, ◌∙◌, arith}
use Rattle.std.specs.List.{slice_get}
use Rattle.std.specs.Option.{is_some, IfNone, IfSome}
use Rattle.std.proofs.lemmas.Bool.{eqb-true, ltb-false, ltb-true, and_parts}
use Rattle.std.proofs.lemmas.List.{map-set, set-get_or, length-map, length-set, length-append, get_or-set_same, get_or-set_other, get_or_append_left, get_or-append_right}
use Rattle.std.proofs.lemmas.List.Sums.{sum_by-set, get_or-le-sum_by}
use Rattle.std.proofs.lemmas.Option.{unwrap_or-slice_get, slice_get-get_or, slice_get_past}
use Rattle.seat_nesting.specs.Nesting.{Steps, IsLadder, steps_at}
use Rattle.seat_nesting.specs.Counting.{LegSeats, Counted, leg_of, held_on, count_at, leg_at, no_leg, IsWithinLimits}
use Rattle.seat_nesting.specs.declared.setting.Setting.{Setting}
use Rattle.seat_nesting.specs.Changing.{with_setting, LegSets, FlightSets, MaySet, SetsOn}
use Rattle.seat_nesting.specs.OwnLadders.{Pool, CountedLeg, pool_of, pool_after, steps_by, own_after, limits_after, may_come, leg_seen, with_limits, no_counted, counted_in, counted_at, legs_seen, all_seen, limits_in, all_limits, limits_at, may_come_on, put, yet_to_come, AreCounters, HaveOwn}
use Rattle.seat_nesting.specs.declared.limits.Limits.{Limits}
use Rattle.seat_nesting.specs.declared.limits.Limits.TheVariants.{Absent, Shared, Own}
use Rattle.seat_nesting.proofs.CountChanges.{at_set, flight_sets, all_sets, within_sets}
use Rattle.seat_nesting.proofs.Settable.{ladder_set, length_setting}
use Rattle.seat_nesting.proofs.LimitChanges.{set_none}
use Rattle.seat_nesting.proofs.CountedLegs.{legs_at, flight_seen, one_seen, leg_seen_at, limits_seen_at, flight_there, Meets, met_leg, met_inside}
use Rattle.seat_nesting.proofs.FlatCounts.{at_map, of_held}
use Rattle.seat_nesting.proofs.Parts.{map_each, set_but}

-- ---- own ladders after a change

own_index : (i j : ℕ) → Own i ≡ Own j → i ≡ j
own_index i j e = cc

-- an own ladder more
steps_more : (pool : Pool) (new : Steps) (limits : Limits) → ((i : ℕ) → limits ≡ Own i → i < length pool.own)
    → steps_by (pool_of pool.shared (pool.own ++ new ∷ [])) limits ≡ steps_by pool limits
steps_more pool new Absent there = refl
steps_more pool new (Shared i) there = refl
steps_more pool new (Own i) there =
    unwrap_or-slice_get (pool.own ++ new ∷ []) i [] ∙ get_or_append_left pool.own (new ∷ []) [] i (there i refl) ∙ sym (unwrap_or-slice_get pool.own i [])

-- another own ladder in the place of one
steps_other : (pool : Pool) (new : Steps) (i : ℕ) (limits : Limits) → limits ≢ Own i
    → steps_by (pool_of pool.shared (set pool.own i new)) limits ≡ steps_by pool limits
steps_other pool new i Absent ne = refl
steps_other pool new i (Shared j) ne = refl
steps_other pool new i (Own j) ne =
    unwrap_or-slice_get (set pool.own i new) j [] ∙ get_or-set_other pool.own i j new [] (λ e. ne (ap Own e)) ∙ sym (unwrap_or-slice_get pool.own j [])

-- the leg that is changed
steps_after : (pool : Pool) (limits : Limits) (setting : Setting) → ((i : ℕ) → limits ≡ Own i → i < length pool.own)
    → steps_by (pool_after pool limits setting) (limits_after pool limits)
    ≡ with_setting (steps_by pool limits) setting
steps_after pool Absent setting there = set_none setting
steps_after pool (Shared j) setting there =
    let own = pool.own in
    let new = with_setting (steps_at pool.shared j) setting in
    let none : length own - length own ≡ 0 = omega arith in
    unwrap_or-slice_get (own ++ new ∷ []) (length own) [] ∙ get_or-append_right own (new ∷ []) (length own) (length own) [] refl (omega arith) ∙ ap (λ (k : ℕ). get_or (new ∷ []) k []) none
steps_after pool (Own i) setting there =
    let new = with_setting (steps_at pool.own i) setting in
    unwrap_or-slice_get (set pool.own i new) i [] ∙ get_or-set_same pool.own i new [] (there i refl)

-- an own ladder that is looked up
pub own_found : {T : Type 0} (own : List Steps) (i : ℕ) (o : Option T) (now : T → Steps) → is_some o ≡ ltb i (length own)
    → IfSome o (λ x. now x ≡ get_or own i (now x)) → IfSome o (λ x. now x ≡ steps_at own i)
own_found own i None now there is = tt
own_found own i (Some x) now there is =
    is ∙ ap (λ (s : Option Steps). unwrap_or s []) (sym (slice_get-get_or own i (now x) (ltb-true i (length own) (sym there))))

pub own_none : {T : Type 0} (own : List Steps) (i : ℕ) (o : Option T) → is_some o ≡ ltb i (length own) → IfNone o (steps_at own i ≡ [])
own_none own i None there = ap (λ (s : Option Steps). unwrap_or s []) (slice_get_past own i (ltb-false i (length own) (sym there)))
own_none own i (Some x) there = tt

-- the own ladder of this number
pub own_at : (pool : Pool) (limits : Limits) (i : ℕ) (x : Steps) → limits ≡ Own i → i < length pool.own
    → x ≡ get_or pool.own i x → steps_by pool limits ≡ x
own_at pool limits i x e inside is = ap (steps_by pool) e ∙ ap (λ (o : Option Steps). unwrap_or o []) (slice_get-get_or pool.own i x inside) ∙ sym is

pub own_written : (pool : Pool) (limits : Limits) (i : ℕ) (x new : Steps) (setting : Setting) → limits ≡ Own i
    → i < length pool.own → x ≡ get_or pool.own i x → new ≡ with_setting x setting
    → set pool.own i new ≡ own_after pool limits setting
own_written pool limits i x new setting e inside is written =
    ap (set pool.own i) (written ∙ ap (λ (s : Steps). with_setting s setting) (sym (own_at pool (Own i) i x refl inside is))) ∙ ap (λ (l : Limits). own_after pool l setting) (sym e)

-- the shared ladder of this number, which is there where it can be changed
pub shared_inside : (pool : Pool) (limits : Limits) (i : ℕ) (setting : Setting) → limits ≡ Shared i
    → IsLadder (with_setting (steps_by pool limits) setting) → i < length pool.shared
shared_inside pool limits i setting e is =
    let here : IsLadder (with_setting (steps_at pool.shared i) setting) = subst (λ (l : Limits). IsLadder (with_setting (steps_by pool l) setting)) e is in
    of pool.shared i (omega (arith, here.some, length_setting (steps_at pool.shared i) setting))
  where
    of : (shared : List Steps) (i : ℕ) → 0 < length (steps_at shared i) → i < length shared
    of [] i h = absurd (omega (arith, h))
    of (s ∷ shared) zero h = omega arith
    of (s ∷ shared) (suc i) h = let below = of shared i h in omega (arith, below)

pub shared_at : (pool : Pool) (limits : Limits) (i : ℕ) (x : Steps) → limits ≡ Shared i → i < length pool.shared
    → x ≡ get_or pool.shared i x → steps_by pool limits ≡ x
shared_at pool limits i x e inside is = ap (steps_by pool) e ∙ ap (λ (o : Option Steps). unwrap_or o []) (slice_get-get_or pool.shared i x inside) ∙ sym is

pub own_joined : (pool : Pool) (limits : Limits) (i : ℕ) (x new : Steps) (setting : Setting) → limits ≡ Shared i
    → i < length pool.shared → x ≡ get_or pool.shared i x → new ≡ with_setting x setting
    → pool.own ++ new ∷ [] ≡ own_after pool limits setting
own_joined pool limits i x new setting e inside is written =
    ap (λ (s : Steps). pool.own ++ s ∷ []) (written ∙ ap (λ (s : Steps). with_setting s setting) (sym (shared_at pool (Shared i) i x refl inside is))) ∙ ap (λ (l : Limits). own_after pool l setting) (sym e)

-- a leg beside it: its own ladder, where it has one, is another
steps_beside : (pool : Pool) (limits other : Limits) (setting : Setting)
    → ((i : ℕ) → other ≡ Own i → i < length pool.own) → ((i : ℕ) → limits ≡ Own i → other ≢ Own i)
    → steps_by (pool_after pool limits setting) other ≡ steps_by pool other
steps_beside pool Absent other setting there apart = refl
steps_beside pool (Shared i) other setting there apart = steps_more pool (with_setting (steps_at pool.shared i) setting) other there
steps_beside pool (Own i) other setting there apart = steps_other pool (with_setting (steps_at pool.own i) setting) i other (apart i refl)

-- ---- the limits of all legs after a change

abbrev limits_on : List (List Limits) → ℕ → List Limits
limits_on limits flight = unwrap_or (slice_get limits flight) []

abbrev put_in : List (List Limits) → ℕ → ℕ → Limits → List (List Limits)
put_in limits flight leg y = set limits flight (set (limits_on limits flight) leg y)

limits_put : (limits : List (List Limits)) (flight leg : ℕ) (y : Limits) (f at : ℕ) → flight < length limits
    → leg < length (limits_on limits flight)
    → limits_at (put_in limits flight leg y) f at ≡ (if (f == flight) && (at == leg) then y else limits_at limits f at)
limits_put limits flight leg y f at there inside =
    ap (λ (l : List Limits). unwrap_or (slice_get l at) Absent) (at_set limits flight f (set (limits_on limits flight) leg y) [] there) ∙ of (f == flight) refl
  where
    of : (b : Bool) → (f == flight) ≡ b
        → unwrap_or (slice_get (cond b (set (limits_on limits flight) leg y) (limits_on limits f)) at) Absent
        ≡ cond (b && (at == leg)) y (limits_at limits f at)
    of true e =
        let same : f ≡ flight = eqb-true f flight e in
        at_set (limits_on limits flight) leg at y Absent inside ∙ ap (λ (i : ℕ). cond (at == leg) y (limits_at limits i at)) (sym same)
    of false e = refl

-- a leg more has a ladder of its own, behind the others
own_more : (n places : ℕ) (limits : List (List Limits)) (flight leg : ℕ) → HaveOwn n places limits
    → flight < length limits → leg < length (limits_on limits flight) → may_come (limits_at limits flight leg) ≡ 1
    → HaveOwn (n + 1) places (put_in limits flight leg (Own n))
own_more n places limits flight leg h there inside one = record {
  there = λ f at i e. there_case f at i ((f == flight) && (at == leg)) (sym (limits_put limits flight leg (Own n) f at there inside) ∙ e);
  apart = λ f at g k i e d. apart_case f at g k i ((f == flight) && (at == leg)) ((g == flight) && (k == leg)) refl refl
      (sym (limits_put limits flight leg (Own n) f at there inside) ∙ e) (sym (limits_put limits flight leg (Own n) g k there inside) ∙ d);
  reserved = omega (arith, h.reserved, sums, legs_sum, one_there, one_put);
}
  where
    there_case : (f at i : ℕ) (b : Bool) → cond b (Own n) (limits_at limits f at) ≡ Own i → i < n + 1
    there_case f at i true e = omega (arith, own_index n i e)
    there_case f at i false e = omega (arith, h.there f at i e)

    apart_case : (f at g k i : ℕ) (b c : Bool) → ((f == flight) && (at == leg)) ≡ b → ((g == flight) && (k == leg)) ≡ c
        → cond b (Own n) (limits_at limits f at) ≡ Own i → cond c (Own n) (limits_at limits g k) ≡ Own i
        → (f ≡ g) × (at ≡ k)
    apart_case f at g k i true true p q e d =
        let a = and_parts (f == flight) (at == leg) p in
        let b = and_parts (g == flight) (k == leg) q in
        (eqb-true f flight a.0 ∙ sym (eqb-true g flight b.0), eqb-true at leg a.1 ∙ sym (eqb-true k leg b.1))
    apart_case f at g k i true false p q e d = absurd (omega (arith, own_index n i e, h.there g k i d))
    apart_case f at g k i false true p q e d = absurd (omega (arith, own_index n i d, h.there f at i e))
    apart_case f at g k i false false p q e d = h.apart f at g k i e d

    legs_sum : may_come_on (set (limits_on limits flight) leg (Own n))
        + may_come (get_or (limits_on limits flight) leg Absent) ≡ may_come_on (limits_on limits flight) + 0
    legs_sum = sum_by-set may_come (limits_on limits flight) leg (Own n) Absent inside

    one_there : may_come (get_or (limits_on limits flight) leg Absent) ≡ 1
    one_there = ap may_come (sym (unwrap_or-slice_get (limits_on limits flight) leg Absent)) ∙ one

    sums : yet_to_come (put_in limits flight leg (Own n)) + may_come_on (get_or limits flight []) ≡ yet_to_come limits
        + may_come_on (set (limits_on limits flight) leg (Own n))
    sums = sum_by-set may_come_on limits flight (set (limits_on limits flight) leg (Own n)) [] there

    one_put : may_come_on (get_or limits flight []) ≡ may_come_on (limits_on limits flight)
    one_put = ap may_come_on (sym (unwrap_or-slice_get limits flight []))

-- nothing is put but what stood there
own_same : (limits : List (List Limits)) (flight leg : ℕ)
    → put_in limits flight leg (limits_at limits flight leg) ≡ limits
own_same limits flight leg =
    ap (λ (l : Limits). set limits flight (set (limits_on limits flight) leg l)) (unwrap_or-slice_get (limits_on limits flight) leg Absent)
    ∙ ap (set limits flight) (set-get_or (limits_on limits flight) leg Absent)
    ∙ ap (set limits flight) (unwrap_or-slice_get limits flight [])
    ∙ set-get_or limits flight []

own_set : (pool : Pool) (places : ℕ) (limits : List (List Limits)) (flight leg : ℕ) (old : Limits)
    (setting : Setting) → HaveOwn (length pool.own) places limits → flight < length limits
    → leg < length (limits_on limits flight) → limits_at limits flight leg ≡ old
    → HaveOwn (length (own_after pool old setting)) places (put_in limits flight leg (limits_after pool old))
own_set pool places limits flight leg Absent setting h there inside e =
    let same : put_in limits flight leg Absent ≡ limits = ap (put_in limits flight leg) (sym e) ∙ own_same limits flight leg in
    subst (λ (l : List (List Limits)). HaveOwn (length pool.own) places l) (sym same) h
own_set pool places limits flight leg (Shared i) setting h there inside e =
    let own = pool.own in
    let new = with_setting (steps_at pool.shared i) setting in
    let more : length (own ++ new ∷ []) ≡ length own + 1 = length-append own (new ∷ []) in
    subst (λ (n : ℕ). HaveOwn n places (put_in limits flight leg (Own (length own)))) (sym more) (own_more (length own) places limits flight leg h there inside (ap may_come e))
own_set pool places limits flight leg (Own i) setting h there inside e =
    let same : put_in limits flight leg (Own i) ≡ limits = ap (put_in limits flight leg) (sym e) ∙ own_same limits flight leg in
    let as_many : length (set pool.own i (with_setting (steps_at pool.own i) setting)) ≡ length pool.own = length-set pool.own i (with_setting (steps_at pool.own i) setting) in
    subst (λ (n : ℕ). HaveOwn n places (put_in limits flight leg (Own i))) (sym as_many) (subst (λ (l : List (List Limits)). HaveOwn (length pool.own) places l) (sym same) h)

-- there is a place for what a leg may yet need
one_of_sum : (limits : List (List Limits)) (flight leg : ℕ) → flight < length limits
    → leg < length (limits_on limits flight) → may_come (limits_at limits flight leg) ≤ yet_to_come limits
one_of_sum limits flight leg there inside =
    let legs = get_or-le-sum_by may_come (limits_on limits flight) leg Absent inside in
    let all = get_or-le-sum_by may_come_on limits flight [] there in
    let here = ap may_come (unwrap_or-slice_get (limits_on limits flight) leg Absent) in
    let flight_is = ap may_come_on (unwrap_or-slice_get limits flight []) in
    omega (arith, legs, all, here, flight_is)

-- ---- what is seen after a change

-- where the limits stand, and what no other leg has
record Stands (pool : Pool) (flights : List (List CountedLeg)) (flight leg : ℕ) : Type 0 where
  there : (f at i : ℕ) → (counted_at flights f at).limits ≡ Own i → i < length pool.own
  apart : (f at i : ℕ) → (counted_at flights flight leg).limits ≡ Own i → (counted_at flights f at).limits ≡ Own i
      → (f ≡ flight) × (at ≡ leg)

stands : (pool : Pool) (places : ℕ) (flights : List (List CountedLeg)) (flight leg : ℕ)
    → HaveOwn (length pool.own) places (all_limits flights) → Stands pool flights flight leg
stands pool places flights flight leg h = record {
  there = λ f at i e. h.there f at i (limits_seen_at flights f at ∙ e);
  apart = λ f at i d e. h.apart f at flight leg i (limits_seen_at flights f at ∙ e) (limits_seen_at flights flight leg ∙ d);
}

beside : (pool : Pool) (flights : List (List CountedLeg)) (flight leg : ℕ) (setting : Setting) (f at : ℕ)
    → Stands pool flights flight leg → ((f ≡ flight) × (at ≡ leg) → ⊥)
    → leg_seen (pool_after pool (counted_at flights flight leg).limits setting) (counted_at flights f at)
    ≡ leg_seen pool (counted_at flights f at)
beside pool flights flight leg setting f at h other =
    let x = counted_at flights f at in
    ap (λ (s : Steps). leg_of s x.held)
    (steps_beside pool (counted_at flights flight leg).limits x.limits setting (h.there f at) (λ i d e. other (h.apart f at i d e)))

set_seen : (pool : Pool) (flights : List (List CountedLeg)) (flight leg : ℕ) (setting : Setting)
    → Stands pool flights flight leg
    → all_seen (pool_after pool (counted_at flights flight leg).limits setting)
    (put flights flight leg (with_limits (counted_at flights flight leg)
    (limits_after pool (counted_at flights flight leg).limits)))
    ≡ set (all_seen pool flights) flight (set (legs_seen pool (legs_at flights flight)) leg (leg_of (with_setting (steps_by pool (counted_at flights flight leg).limits) setting) (counted_at flights flight leg).held))
set_seen pool flights flight leg setting h =
    let old = counted_at flights flight leg in
    let new = pool_after pool old.limits setting in
    let x = with_limits old (limits_after pool old.limits) in
    let y = leg_of (with_setting (steps_by pool old.limits) setting) old.held in
    map-set (legs_seen new) flights flight (set (legs_at flights flight) leg x)
    ∙ ap (set (all_seen new flights) flight)
    (map-set (leg_seen new) (legs_at flights flight) leg x
    ∙ ap (set (legs_seen new (legs_at flights flight)) leg) (ap (λ (s : Steps). leg_of s old.held) (steps_after pool old.limits setting (h.there flight leg)))
    ∙ set_but (leg_seen new) (leg_seen pool) (legs_at flights flight) leg y no_counted (λ at ne. beside pool flights flight leg setting flight at h (λ e. ne e.1)))
    ∙ set_but (legs_seen new) (legs_seen pool) flights flight (set (legs_seen pool (legs_at flights flight)) leg y) []
    (λ f ne. map_each (leg_seen new) (leg_seen pool) (legs_at flights f) no_counted (λ at. beside pool flights flight leg setting f at h (λ e. ne e.0)))

-- ---- what it needs that something is set, and what it gives

abbrev pub May : Counted → ℕ → ℕ → Setting → Type 0
May now flight leg setting = MaySet (leg_at now flight leg) setting

pub set_some : (pool : Pool) (places : ℕ) (flights : List (List CountedLeg)) (now : Counted)
    (flight leg : ℕ) (setting : Setting) → Meets pool places flights now → May now flight leg setting
    → leg < length (legs_at flights flight)
set_some pool places flights now flight leg setting m may = met_inside pool places flights now flight leg m may.some

pub set_ladder : (pool : Pool) (places : ℕ) (flights : List (List CountedLeg)) (now : Counted)
    (flight leg : ℕ) (setting : Setting) → Meets pool places flights now → May now flight leg setting
    → IsLadder (with_setting (steps_by pool (counted_at flights flight leg).limits) setting)
set_ladder pool places flights now flight leg setting m may =
    let same : steps_by pool (counted_at flights flight leg).limits ≡ (leg_at now flight leg).steps = ap (λ (l : LegSeats). l.steps) (met_leg pool places flights now flight leg m) in
    subst (λ (s : Steps). IsLadder (with_setting s setting)) (sym same) (ladder_set (leg_at now flight leg) setting may)

pub set_there : (pool : Pool) (places : ℕ) (flights : List (List CountedLeg)) (now : Counted) (flight leg : ℕ)
    → Meets pool places flights now → (i : ℕ) → (counted_at flights flight leg).limits ≡ Own i → i < length pool.own
set_there pool places flights now flight leg m i e = m.counters.owned.there flight leg i (limits_seen_at flights flight leg ∙ e)

come_of_sum : (n places : ℕ) (flights : List (List CountedLeg)) (flight leg : ℕ) → HaveOwn n places (all_limits flights)
    → leg < length (legs_at flights flight) → n + may_come (counted_at flights flight leg).limits ≤ places
come_of_sum n places flights flight leg h here =
    let flights_are : flight < length (all_limits flights) = rw length-map (flight_there flights flight leg here) in
    let legs_are : leg < length (limits_on (all_limits flights) flight) = rw (at_map limits_in flights flight [], length-map) here in
    let one = one_of_sum (all_limits flights) flight leg flights_are legs_are in
    let same : may_come (limits_at (all_limits flights) flight leg) ≡ may_come (counted_at flights flight leg).limits = ap may_come (limits_seen_at flights flight leg) in
    omega (arith, one, same, h.reserved)

pub set_reserved : (pool : Pool) (places : ℕ) (flights : List (List CountedLeg)) (now : Counted)
    (flight leg : ℕ) (setting : Setting) → Meets pool places flights now → May now flight leg setting
    → length pool.own + may_come (counted_at flights flight leg).limits ≤ places
set_reserved pool places flights now flight leg setting m may =
    come_of_sum (length pool.own) places flights flight leg m.counters.owned (set_some pool places flights now flight leg setting m may)

pub set_numbered : (pool : Pool) (places : ℕ) (flights : List (List CountedLeg)) (now : Counted)
    (flight leg : ℕ) (setting : Setting) → Meets pool places flights now → May now flight leg setting
    → length pool.own + may_come (counted_at flights flight leg).limits ≤ 4294967295
set_numbered pool places flights now flight leg setting m may =
    come_of_sum (length pool.own) 4294967295 flights flight leg m.counters.numbered (set_some pool places flights now flight leg setting m may)

-- the flight's legs as they are seen, and with what is set
set_flight : (pool : Pool) (flights : List (List CountedLeg)) (now : Counted) (flight leg : ℕ) (setting : Setting)
    → all_seen pool flights ≡ now → leg < length (legs_at flights flight)
    → May now flight leg setting
    → FlightSets (legs_seen pool (legs_at flights flight))
    (set (legs_seen pool (legs_at flights flight)) leg
    (leg_of (with_setting (steps_by pool (counted_at flights flight leg).limits) setting)
    (counted_at flights flight leg).held)) leg setting
set_flight pool flights now flight leg setting e here may =
    let x = leg_seen pool (counted_at flights flight leg) in
    let same : leg_at now flight leg ≡ x = ap (λ (c : Counted). leg_at c flight leg) (sym e) ∙ leg_seen_at pool flights flight leg in
    let sets : LegSets x (leg_of (with_setting x.steps setting) x.held) setting =
    subst (λ (l : LegSeats). LegSets l (leg_of (with_setting l.steps setting) l.held) setting) same may.sets in
    let is : x ≡ get_or (legs_seen pool (legs_at flights flight)) leg no_leg = sym (one_seen pool (legs_at flights flight) leg) ∙ unwrap_or-slice_get (legs_seen pool (legs_at flights flight)) leg no_leg in
    flight_sets (legs_seen pool (legs_at flights flight)) (legs_seen pool (legs_at flights flight)) leg x (leg_of (with_setting x.steps setting) x.held) setting refl (rw length-map here) is sets

-- the limits that stand elsewhere, and the pool with what is set
abbrev pub SetTo : Pool → List (List CountedLeg) → ℕ → ℕ → Setting → Pool → List (List CountedLeg) → Type 0
SetTo pool flights flight leg setting new_pool new =
    (new_pool ≡ pool_after pool (counted_at flights flight leg).limits setting)
    × (new ≡ put flights flight leg (with_limits (counted_at flights flight leg) (limits_after pool (counted_at flights flight leg).limits)))

-- as the calls that do it say it
pub set_to : (shared own all : List Steps) (flights : List (List CountedLeg)) (flight leg : ℕ) (setting : Setting)
    (limits : Limits) (held : List ℕ) (new_own : List Steps) (new_limits : Limits) (new : List (List CountedLeg))
    → all ≡ shared → of_held limits held ≡ counted_at flights flight leg
    → new_own ≡ own_after (pool_of all own) limits setting → new_limits ≡ limits_after (pool_of all own) limits
    → new ≡ put flights flight leg (with_limits (counted_at flights flight leg) new_limits)
    → SetTo (pool_of shared own) flights flight leg setting (pool_of shared new_own) new
set_to shared own all flights flight leg setting limits held new_own new_limits new all_are found own_is limits_are new_is = (
  ap (pool_of shared) (own_is ∙ ap (λ (s : List Steps). own_after (pool_of s own) limits setting) all_are ∙ ap (λ (c : CountedLeg). own_after (pool_of shared own) c.limits setting) found),
  new_is ∙ ap (λ (l : Limits). put flights flight leg (with_limits (counted_at flights flight leg) l)) (limits_are ∙ ap (λ (s : List Steps). limits_after (pool_of s own) limits) all_are ∙ ap (λ (c : CountedLeg). limits_after (pool_of shared own) c.limits) found),
)

-- the counters after, as they are seen
set_now : (pool : Pool) (places : ℕ) (flights : List (List CountedLeg)) (now : Counted)
    (flight leg : ℕ) (setting : Setting) (new_pool : Pool) (new : List (List CountedLeg)) → Meets pool places flights now
    → SetTo pool flights flight leg setting new_pool new
    → all_seen new_pool new
    ≡ set (all_seen pool flights) flight (set (legs_seen pool (legs_at flights flight)) leg (leg_of (with_setting (steps_by pool (counted_at flights flight leg).limits) setting) (counted_at flights flight leg).held))
set_now pool places flights now flight leg setting new_pool new m to =
    ap (λ (p : Pool). all_seen p new) to.0
    ∙ ap (all_seen (pool_after pool (counted_at flights flight leg).limits setting)) to.1
    ∙ set_seen pool flights flight leg setting (stands pool places flights flight leg m.counters.owned)

pub sets_on : (pool : Pool) (places : ℕ) (flights : List (List CountedLeg)) (now : Counted)
    (flight leg : ℕ) (setting : Setting) (new_pool : Pool) (new : List (List CountedLeg)) → Meets pool places flights now
    → May now flight leg setting → SetTo pool flights flight leg setting new_pool new
    → SetsOn now (all_seen new_pool new) flight leg setting
sets_on pool places flights now flight leg setting new_pool new m may to =
    let here = set_some pool places flights now flight leg setting m may in
    let there = flight_there flights flight leg here in
    let after = set_flight pool flights now flight leg setting m.seen here may in
    let is : legs_seen pool (legs_at flights flight) ≡ get_or (all_seen pool flights) flight [] = sym (flight_seen pool flights flight) ∙ unwrap_or-slice_get (all_seen pool flights) flight [] in
    subst (λ (c : Counted). SetsOn now c flight leg setting) (sym (set_now pool places flights now flight leg setting new_pool new m to))
    (all_sets (all_seen pool flights) now flight (legs_seen pool (legs_at flights flight)) _ leg setting m.seen (rw length-map there) is after)

set_owned : (pool : Pool) (places : ℕ) (flights : List (List CountedLeg)) (flight leg : ℕ) (setting : Setting)
    (new_pool : Pool) (new : List (List CountedLeg)) → HaveOwn (length pool.own) places (all_limits flights)
    → leg < length (legs_at flights flight) → SetTo pool flights flight leg setting new_pool new
    → HaveOwn (length new_pool.own) places (all_limits new)
set_owned pool places flights flight leg setting new_pool new h here to =
    let old = counted_at flights flight leg in
    let x = with_limits old (limits_after pool old.limits) in
    let placed : all_limits new ≡ put_in (all_limits flights) flight leg (limits_after pool old.limits) =
    ap all_limits to.1
    ∙ map-set limits_in flights flight (set (legs_at flights flight) leg x)
    ∙ ap (set (all_limits flights) flight) (map-set (λ (c : CountedLeg). c.limits) (legs_at flights flight) leg x)
    ∙ ap (λ (l : List Limits). set (all_limits flights) flight (set l leg (limits_after pool old.limits))) (sym (at_map limits_in flights flight [])) in
    let flights_are : flight < length (all_limits flights) = rw length-map (flight_there flights flight leg here) in
    let legs_are : leg < length (limits_on (all_limits flights) flight) = rw (at_map limits_in flights flight [], length-map) here in
    subst (λ (l : List (List Limits)). HaveOwn (length new_pool.own) places l) (sym placed)
    (subst (λ (p : Pool). HaveOwn (length p.own) places (put_in (all_limits flights) flight leg (limits_after pool old.limits))) (sym to.0)
    (own_set pool places (all_limits flights) flight leg old.limits setting h flights_are legs_are (limits_seen_at flights flight leg)))

pub set_counters : (pool : Pool) (places : ℕ) (flights : List (List CountedLeg)) (now : Counted)
    (flight leg : ℕ) (setting : Setting) (new_pool : Pool) (new : List (List CountedLeg)) → Meets pool places flights now
    → May now flight leg setting → SetTo pool flights flight leg setting new_pool new
    → AreCounters new_pool places new
set_counters pool places flights now flight leg setting new_pool new m may to =
    let here = set_some pool places flights now flight leg setting m may in
    let there = flight_there flights flight leg here in
    let after = set_flight pool flights now flight leg setting m.seen here may in
    let is : legs_seen pool (legs_at flights flight) ≡ get_or (all_seen pool flights) flight [] = sym (flight_seen pool flights flight) ∙ unwrap_or-slice_get (all_seen pool flights) flight [] in
    record {
      kept = subst (λ (c : Counted). IsWithinLimits c) (sym (set_now pool places flights now flight leg setting new_pool new m to))
          (within_sets (all_seen pool flights) flight (legs_seen pool (legs_at flights flight)) _ leg setting (rw length-map there) is after m.counters.kept);
      owned = set_owned pool places flights flight leg setting new_pool new m.counters.owned here to;
      numbered = set_owned pool 4294967295 flights flight leg setting new_pool new m.counters.numbered here to;
    }
