-- The legs of a grid, laid out, and the counters over them before a seat is taken.
use Rattle.std.proofs.Common.{◌≡◌, ◌==◌, ℕ, zero, suc, ◌+◌, ◌-◌, ◌<◌, ◌≤◌, Bool, true, false, nat_lt, Option, Some, None, List, [], ◌∷◌, ◌++◌, length, drop, map, take, replicate, get_or, unwrap_or, refl, ap, sym, subst, ◌∙◌, arith}
use Rattle.std.specs.Prelude.{OnOk, Result, Ok, Err}
use Rattle.std.specs.List.{slice_get, list_all, flat_map, sum_by}
use Rattle.std.proofs.Math.Seq.{take-append_seam, drop-append_seam}
use Rattle.std.proofs.lemmas.Bool.Decides.{nat_tests}
use Rattle.std.proofs.lemmas.List.{append-nil, append_assoc, drop-drop, drop-replicate, get_or_append_left, get_or_past, get_or_push, length-append, length-map, length-replicate, length-take, map-append, take-replicate, take_all, take_more}
use Rattle.std.proofs.lemmas.List.Concat.{flat_map-cons}
use Rattle.std.proofs.lemmas.List.Sums.{sum_by-cons}
use Rattle.std.proofs.lemmas.Option.{slice_get-get_or, unwrap_or-slice_get}
use Rattle.seat_nesting.specs.declared.ladder.Step.{Step}
use Rattle.seat_nesting.specs.declared.counted_flights.LegPart.{LegPart}
use Rattle.seat_nesting.specs.declared.counted_flights.FlightPart.{FlightPart}
use Rattle.seat_nesting.specs.declared.laid_out.Layout.{Layout}
use Rattle.seat_nesting.specs.declared.limits.Limits.{Limits}
use Rattle.seat_nesting.specs.declared.limits.Limits.TheVariants.{Absent, Shared, Own}
use Rattle.seat_nesting.specs.Nesting.{Steps, Ladders, IsLadder, IsLegLadder, steps_at}
use Rattle.seat_nesting.specs.Counting.{LegSeats, Counted, IsFresh, KeepsLimits, leg_of, leg_at, limits_of, no_leg, table_of}
use Rattle.seat_nesting.specs.OwnLadders.{Pool, CountedLeg, pool_of, steps_by, may_come, leg_seen, legs_seen, all_seen, counted_at, limits_in, all_limits, limits_at, may_come_on, yet_to_come, AreCounters, HaveOwn}
use Rattle.seat_nesting.specs.FlatCounts.{part, Follow, counted_by, legs_by, flights_by, no_part, no_flight, LegsFollow, FlightsFollow, AreLaidOut, IsFor, AreFor, Grows, AddsLegs, all_legs, IsLaid, leg_steps, flights_in, grid_in}
use Rattle.seat_nesting.specs.Planning.{steps_in}
use Rattle.seat_nesting.proofs.Parts.{part_at, part_map, part_past, follow_at, follow_push}
use Rattle.seat_nesting.proofs.FlatCounts.{flight_at, part_of, leg_counted}
use Rattle.seat_nesting.proofs.CountedLegs.{leg_seen_at, limits_seen_at}
use Rattle.seat_nesting.proofs.LegCounting.{is_fresh, kept_none, count_none}

-- ---- more ladders, more legs

-- the ladder that a search finds
pub found_at : (shared : List Steps) (i : ℕ) (found steps : Steps) → i < length shared
    → found ≡ get_or shared i found → found ≡ steps → steps_at shared i ≡ steps
found_at shared i found steps lt is same = ap (λ (o : Option Steps). unwrap_or o []) (slice_get-get_or shared i found lt) ∙ sym is ∙ same

pub grows_none : (shared : List Steps) → Grows shared shared
grows_none shared = record { longer = omega arith; same = λ i lt. refl }

-- a ladder more, behind the others
pub grows_one : (old : List Steps) (x : Steps) → Grows old (old ++ x ∷ [])
grows_one old x = record {
  longer = omega (arith, length-append old (x ∷ []));
  same = λ i lt. unwrap_or-slice_get (old ++ x ∷ []) i [] ∙ get_or_append_left old (x ∷ []) [] i lt ∙ sym (unwrap_or-slice_get old i []);
}

pub there_one : (old : List Steps) (x ladder : Steps) (i : ℕ) → i ≡ length old → x ≡ ladder
    → (i < length (old ++ x ∷ [])) × (steps_at (old ++ x ∷ []) i ≡ ladder)
there_one old x ladder i at e = (omega (arith, at, length-append old (x ∷ [])), unwrap_or-slice_get (old ++ x ∷ []) i [] ∙ get_or_push old x [] i (sym at) ∙ e)

steps_by_more : (old new : List Steps) (limits : Limits) → Grows old new
    → ((i : ℕ) → limits ≡ Shared i → i < length old)
    → steps_by (pool_of new []) limits ≡ steps_by (pool_of old []) limits
steps_by_more old new Absent grows inside = refl
steps_by_more old new (Shared i) grows inside = grows.same i (inside i refl)
steps_by_more old new (Own i) grows inside = refl

for_more : (old new : List Steps) (leg : LegPart) (steps : Steps) → Grows old new → IsFor old leg steps
    → IsFor new leg steps
for_more old new leg steps grows is = record {
  steps_are = steps_by_more old new leg.limits grows is.inside ∙ is.steps_are;
  ladder = is.ladder;
  ranks = is.ranks;
  inside = λ i e. let lt = is.inside i e in let le = grows.longer in omega (arith, lt, le);
  come = is.come;
}

pub are_more : (old new : List Steps) (legs : List LegPart) (done : List Steps) → Grows old new → AreFor old legs done
    → AreFor new legs done
are_more old new [] [] grows all = tt
are_more old new (leg ∷ legs) (steps ∷ more) grows all = (for_more old new leg steps grows all.0, are_more old new legs more grows all.1)
are_more old new [] (steps ∷ more) grows all = absurd all
are_more old new (leg ∷ legs) [] grows all = absurd all

are_push : (shared : List Steps) (legs : List LegPart) (done : List Steps) (leg : LegPart) (steps : Steps)
    → AreFor shared legs done → IsFor shared leg steps → AreFor shared (legs ++ leg ∷ []) (done ++ steps ∷ [])
are_push shared [] [] leg steps all is = (is, tt)
are_push shared (l ∷ legs) (s ∷ more) leg steps all is = (all.0, are_push shared legs more leg steps all.1 is)
are_push shared [] (s ∷ more) leg steps all is = absurd all
are_push shared (l ∷ legs) [] leg steps all is = absurd all

pub adds_leg : (old new : Layout) (leg : LegPart) (steps : Steps) → Grows old.shared.items new.shared.items
    → new.legs.items ≡ old.legs.items ++ leg ∷ [] → leg.start ≡ old.numbers → new.numbers ≡ old.numbers + leg.ranks
    → IsFor new.shared.items leg steps → AddsLegs old new (steps ∷ [])
adds_leg old new leg steps grows legs_are start numbers is = record {
  legs_are = λ done all. subst (λ (l : List LegPart). AreFor new.shared.items l (done ++ steps ∷ [])) (sym legs_are)
      (are_push new.shared.items old.legs.items done leg steps (are_more old.shared.items new.shared.items old.legs.items done grows all) is);
  legs_follow = λ h. subst (λ (l : List LegPart). LegsFollow l new.numbers) (sym legs_are)
      (subst (λ (n : ℕ). LegsFollow (old.legs.items ++ leg ∷ []) n) (sym numbers)
      (follow_push (λ (l : LegPart). l.start) (λ (l : LegPart). l.ranks) 0 old.legs.items old.numbers leg h start));
  count = ap length legs_are ∙ length-append old.legs.items (leg ∷ []);
}

pub no_ladder_for : (shared : List Steps) (leg : LegPart) → leg.limits ≡ Absent → leg.ranks ≡ 0 → IsFor shared leg []
no_ladder_for shared leg e none = record {
  steps_are = ap (steps_by (pool_of shared [])) e;
  ladder = record { most = omega arith; distinct = tt; not_rising = tt; bounded = tt };
  ranks = none;
  inside = λ i d. let no : Absent ≡ Shared i = sym e ∙ d in absurd cc;
  come = ap may_come e;
}

pub ladder_for : (shared : List Steps) (leg : LegPart) (i : ℕ) (steps : Steps) → leg.limits ≡ Shared i
    → i < length shared → steps_at shared i ≡ steps → IsLegLadder steps → leg.ranks ≡ length steps
    → IsFor shared leg steps
ladder_for shared leg i steps e lt is ladder ranks = record {
  steps_are = ap (steps_by (pool_of shared [])) e ∙ is;
  ladder = ladder;
  ranks = ranks;
  inside = λ j d. let same : Shared i ≡ Shared j = sym e ∙ d in let index : i ≡ j = cc in omega (arith, lt, index);
  come = ap may_come e;
}

leg_ladder : (steps : Steps) → IsLadder steps → IsLegLadder steps
leg_ladder steps is = record { most = is.most; distinct = is.distinct; not_rising = is.not_rising; bounded = is.bounded }

on_ok : {T E P Q R : Type 0} (r : Result T E) → (P → Q → R) → OnOk r P → OnOk r Q → OnOk r R
on_ok (Ok x) f p q = f p q
on_ok (Err e) f p q = tt

-- a leg without limits is added
absent_adds : (old new : Layout) → new.shared.items ≡ old.shared.items
    → new.legs.items ≡ old.legs.items ++ (record { start = old.numbers; limits = Absent; ranks = 0 }) ∷ []
    → new.numbers ≡ old.numbers + 0 → AddsLegs old new ([] ∷ [])
absent_adds old new shared legs numbers =
    let leg : LegPart = record { start = old.numbers; limits = Absent; ranks = 0 } in
    let grows : Grows old.shared.items new.shared.items = subst (λ (s : List Steps). Grows old.shared.items s) (sym shared) (grows_none old.shared.items) in
    adds_leg old new leg [] grows legs refl numbers (no_ladder_for new.shared.items leg refl refl)

pub absent_told : {T E : Type 0} (r : Result T E) (old new : Layout) (number : Option ℕ) → number ≡ None
    → new.shared.items ≡ old.shared.items
    → OnOk r (new.legs.items ≡ old.legs.items ++ (record { start = old.numbers; limits = Absent; ranks = 0 }) ∷ [])
    → OnOk r (new.numbers ≡ old.numbers + 0) → OnOk r (AddsLegs old new (steps_in old.shared.items number ∷ []))
absent_told r old new number none shared legs numbers =
    subst (λ (o : Option ℕ). OnOk r (AddsLegs old new (steps_in old.shared.items o ∷ []))) (sym none) (on_ok r (absent_adds old new shared) legs numbers)

-- a leg with a shared ladder is added
shared_adds : (old new : Layout) (got : Steps) (i ranks : ℕ) → i < length old.shared.items
    → got ≡ steps_at old.shared.items i → IsLadder got → ranks ≡ length got → new.shared.items ≡ old.shared.items
    → new.legs.items ≡ old.legs.items ++ (record { start = old.numbers; limits = Shared i; ranks = ranks }) ∷ []
    → new.numbers ≡ old.numbers + ranks → AddsLegs old new (steps_at old.shared.items i ∷ [])
shared_adds old new got i ranks lt got_is is count shared legs numbers =
    let leg : LegPart = record { start = old.numbers; limits = Shared i; ranks = ranks } in
    let grows : Grows old.shared.items new.shared.items = subst (λ (s : List Steps). Grows old.shared.items s) (sym shared) (grows_none old.shared.items) in
    let its : IsFor new.shared.items leg got = subst (λ (s : List Steps). IsFor s leg got) (sym shared) (ladder_for old.shared.items leg i got refl lt (sym got_is) (leg_ladder got is) count) in
    subst (λ (s : Steps). AddsLegs old new (s ∷ [])) got_is (adds_leg old new leg got grows legs refl numbers its)

pub shared_told : {T E : Type 0} (r : Result T E) (old new : Layout) (number : Option ℕ) (got : Steps) (i ranks : ℕ)
    → number ≡ Some i → i < length old.shared.items
    → got ≡ steps_at old.shared.items i → IsLadder got → ranks ≡ length got → new.shared.items ≡ old.shared.items
    → OnOk r (new.legs.items ≡ old.legs.items ++ (record { start = old.numbers; limits = Shared i; ranks = ranks }) ∷ [])
    → OnOk r (new.numbers ≡ old.numbers + ranks) → OnOk r (AddsLegs old new (steps_in old.shared.items number ∷ []))
shared_told r old new number got i ranks some lt got_is is count shared legs numbers =
    subst (λ (o : Option ℕ). OnOk r (AddsLegs old new (steps_in old.shared.items o ∷ []))) (sym some)
    (on_ok r (shared_adds old new got i ranks lt got_is is count shared) legs numbers)

-- ---- the flights of a grid

pub all_push : (grid : Ladders) (legs : List Steps) → all_legs (grid ++ legs ∷ []) ≡ all_legs grid ++ legs
all_push [] legs = flat_map-cons (λ (l : List Steps). l) legs [] ∙ append-nil legs
all_push (l ∷ grid) legs =
    flat_map-cons (λ (x : List Steps). x) l (grid ++ legs ∷ [])
    ∙ ap (λ (s : List Steps). l ++ s) (all_push grid legs)
    ∙ sym (append_assoc l (all_legs grid) legs)
    ∙ ap (λ (s : List Steps). s ++ legs) (sym (flat_map-cons (λ (x : List Steps). x) l grid))

-- ---- what is seen of it

pub steps_are : (shared : List Steps) (legs : List LegPart) (done : List Steps) → AreFor shared legs done
    → map (leg_steps shared) legs ≡ done
steps_are shared [] [] all = refl
steps_are shared (leg ∷ legs) (steps ∷ more) all = ap (λ (s : Steps). s ∷ map (leg_steps shared) legs) all.0.steps_are ∙ ap (λ (l : List Steps). steps ∷ l) (steps_are shared legs more all.1)
steps_are shared [] (steps ∷ more) all = absurd all
steps_are shared (leg ∷ legs) [] all = absurd all

legs_fuse : (shared : List Steps) (run : List ℕ) (legs : List LegPart)
    → map (λ (s : LegSeats). s.steps) (legs_seen (pool_of shared []) (map (counted_by run) legs)) ≡ map (leg_steps shared) legs
legs_fuse shared run [] = refl
legs_fuse shared run (leg ∷ legs) = ap (λ (s : List Steps). leg_steps shared leg ∷ s) (legs_fuse shared run legs)

flights_fuse : (shared : List Steps) (run : List ℕ) (legs : List LegPart) (flights : List FlightPart)
    → limits_of (all_seen (pool_of shared []) (flights_by run legs flights)) ≡ flights_in shared legs flights
flights_fuse shared run legs [] = refl
flights_fuse shared run legs (f ∷ flights) =
    ap (λ (s : List Steps). s ∷ limits_of (all_seen (pool_of shared []) (flights_by run legs flights))) (legs_fuse shared run (part legs f.first f.legs) ∙ part_map (leg_steps shared) legs f.first f.legs)
    ∙ ap (λ (g : Ladders). part (map (leg_steps shared) legs) f.first f.legs ∷ g) (flights_fuse shared run legs flights)

-- parts that follow one another are the lists that were joined
pub record AreChunks (xs : List Steps) (flights : List FlightPart) (end : ℕ) (grid : Ladders) (more : List Steps) : Type 0 where
  pub parts : map (λ (f : FlightPart). part xs f.first f.legs) flights ≡ grid
  pub behind : drop end xs ≡ more

pub chunks : (xs : List Steps) (from : ℕ) (flights : List FlightPart) (end : ℕ) (grid : Ladders) (more : List Steps)
    → Follow (λ (f : FlightPart). f.first) (λ (f : FlightPart). f.legs) from flights end
    → map (λ (f : FlightPart). f.legs) flights ≡ map (λ (l : List Steps). length l) grid
    → drop from xs ≡ all_legs grid ++ more → AreChunks xs flights end grid more
chunks xs from [] end [] more follow sizes rest = record { parts = refl; behind = ap (λ (k : ℕ). drop k xs) (sym follow) ∙ rest }
chunks xs from [] end (g ∷ grid) more follow sizes rest = absurd cc
chunks xs from (f ∷ flights) end [] more follow sizes rest = absurd cc
chunks xs from (f ∷ flights) end (g ∷ grid) more follow sizes rest =
    next (chunks xs (from + f.legs) flights end grid more follow.1 sizes_behind rest_behind)
  where
    size : f.legs ≡ length g
    size = cc

    sizes_behind : map (λ (f : FlightPart). f.legs) flights ≡ map (λ (l : List Steps). length l) grid
    sizes_behind = cc

    joined : drop from xs ≡ g ++ (all_legs grid ++ more)
    joined = rest ∙ ap (λ (l : List Steps). l ++ more) (flat_map-cons (λ (l : List Steps). l) g grid) ∙ append_assoc g (all_legs grid) more

    first : part xs f.first f.legs ≡ g
    first =
        ap (λ (k : ℕ). part xs k f.legs) follow.0
        ∙ ap (λ (n : ℕ). take n (drop from xs)) size
        ∙ ap (take (length g)) joined
        ∙ take-append_seam g (all_legs grid ++ more)

    rest_behind : drop (from + f.legs) xs ≡ all_legs grid ++ more
    rest_behind =
        sym (drop-drop f.legs from xs)
        ∙ ap (λ (n : ℕ). drop n (drop from xs)) size
        ∙ ap (drop (length g)) joined
        ∙ drop-append_seam g (all_legs grid ++ more)

    next : AreChunks xs flights end grid more → AreChunks xs (f ∷ flights) end (g ∷ grid) more
    next others = record {
      parts =
          ap (λ (p : List Steps). p ∷ map (λ (f : FlightPart). part xs f.first f.legs) flights) first
          ∙ ap (λ (l : Ladders). g ∷ l) others.parts;
      behind = others.behind;
    }

-- the flights that are laid out
pub grid_laid : (layout : Layout) (grid : Ladders) → IsLaid layout grid → grid_in layout ≡ grid
grid_laid layout grid laid =
    (chunks (map (leg_steps layout.shared.items) layout.legs.items) 0 layout.flights.items (length layout.legs.items) grid [] laid.flights_follow laid.sizes
    (steps_are layout.shared.items layout.legs.items (all_legs grid) laid.legs_are ∙ sym (append-nil (all_legs grid)))).parts

pub laid_so : (layout : Layout) (grid : Ladders) → IsLaid layout grid → IsLaid layout (grid_in layout)
laid_so layout grid laid = subst (λ (g : Ladders). IsLaid layout g) (sym (grid_laid layout grid laid)) laid

pub limits_laid : (layout : Layout) (grid : Ladders) (run : List ℕ) → IsLaid layout grid
    → limits_of (all_seen (pool_of layout.shared.items []) (flights_by run layout.legs.items layout.flights.items)) ≡ grid
limits_laid layout grid run laid = flights_fuse layout.shared.items run layout.legs.items layout.flights.items ∙ grid_laid layout grid laid

-- ---- each leg of it

each_part : (P : LegPart → Type 0) (legs : List LegPart) (flights : List FlightPart) (f at : ℕ) → P no_part
    → ((j : ℕ) → j < length legs → P (get_or legs j no_part)) → P (part_of legs flights f at)
each_part P legs flights f at none all = of (nat_lt at (flight_at flights f).legs) (nat_lt ((flight_at flights f).first + at) (length legs)) refl refl
  where
    j : ℕ
    j = (flight_at flights f).first + at

    of : (b c : Bool) → nat_lt at (flight_at flights f).legs ≡ b → nat_lt j (length legs) ≡ c → P (part_of legs flights f at)
    of true true h e =
        let lt : at < (flight_at flights f).legs = grind (arith, nat_tests, h) in
        let inside : j < length legs = grind (arith, nat_tests, e) in
        subst P (sym (part_at legs (flight_at flights f).first (flight_at flights f).legs at no_part lt)) (all j inside)
    of true false h e =
        let lt : at < (flight_at flights f).legs = grind (arith, nat_tests, h) in
        let past : length legs ≤ j = grind (arith, nat_tests, e) in
        subst P (sym (part_at legs (flight_at flights f).first (flight_at flights f).legs at no_part lt ∙ get_or_past legs j no_part past)) none
    of false c h e =
        let past : (flight_at flights f).legs ≤ at = grind (arith, nat_tests, h) in
        subst P (sym (part_past legs (flight_at flights f).first (flight_at flights f).legs at no_part past)) none

are_at : (shared : List Steps) (legs : List LegPart) (done : List Steps) (j : ℕ) → AreFor shared legs done
    → j < length legs → IsFor shared (get_or legs j no_part) (get_or done j [])
are_at shared [] done j all lt = absurd (omega (arith, lt))
are_at shared (leg ∷ legs) [] j all lt = absurd all
are_at shared (leg ∷ legs) (steps ∷ more) zero all lt = all.0
are_at shared (leg ∷ legs) (steps ∷ more) (suc j) all lt = are_at shared legs more j all.1 (omega (arith, lt))

-- a run of no seats
abbrev zeros : ℕ → List ℕ
zeros n = replicate n 0

all_none : (n : ℕ) → list_all (λ m. m == 0) (zeros n) ≡ true
all_none zero = refl
all_none (suc n) = all_none n

fresh_with : (steps : Steps) (n : ℕ) → IsLegLadder steps → length steps ≤ n → IsFresh (leg_of steps (replicate n 0))
fresh_with steps n ladder le =
    is_fresh (leg_of steps (zeros n)) (kept_none steps (zeros n) ladder (omega (arith, le, length-replicate {A = ℕ} n 0)) (all_none n)) (λ k. count_none steps (zeros n) k (all_none n))

fresh_part : (shared : List Steps) (leg : LegPart) (steps : Steps) (numbers : ℕ) → IsFor shared leg steps
    → leg.start + leg.ranks ≤ numbers → IsFresh (leg_seen (pool_of shared []) (counted_by (replicate numbers 0) leg))
fresh_part shared leg steps numbers is le =
    subst (λ (held : List ℕ). IsFresh (leg_of (steps_by (pool_of shared []) leg.limits) held)) (sym none)
    (subst (λ (s : Steps). IsFresh (leg_of s (replicate leg.ranks 0))) (sym is.steps_are) (fresh_with steps leg.ranks is.ladder (omega (arith, is.ranks))))
  where
    none : part (zeros numbers) leg.start leg.ranks ≡ zeros leg.ranks
    none = ap (take leg.ranks) (drop-replicate leg.start numbers 0) ∙ take-replicate leg.ranks (numbers - leg.start) 0 (omega (arith, le))

fresh_none : (pool : Pool) (run : List ℕ) → IsFresh (leg_seen pool (counted_by run no_part))
fresh_none pool run = fresh_with [] 0 (record { most = omega arith; distinct = tt; not_rising = tt; bounded = tt }) (omega arith)

pub fresh_laid : (layout : Layout) (grid : Ladders) → IsLaid layout grid → (f at : ℕ)
    → IsFresh (leg_at (all_seen (pool_of layout.shared.items []) (flights_by (replicate layout.numbers 0) layout.legs.items layout.flights.items)) f at)
fresh_laid layout grid laid f at =
    subst IsFresh (sym (leg_seen_at pool (flights_by run legs flights) f at ∙ ap (leg_seen pool) (leg_counted run legs flights f at)))
    (each_part (λ (l : LegPart). IsFresh (leg_seen pool (counted_by run l))) legs flights f at (fresh_none pool run) (λ j lt. each j lt))
  where
    pool : Pool
    pool = pool_of layout.shared.items []

    run : List ℕ
    run = replicate layout.numbers 0

    legs : List LegPart
    legs = layout.legs.items

    flights : List FlightPart
    flights = layout.flights.items

    each : (j : ℕ) → j < length legs → IsFresh (leg_seen pool (counted_by run (get_or legs j no_part)))
    each j lt =
        let ends = follow_at (λ (l : LegPart). l.start) (λ (l : LegPart). l.ranks) 0 legs layout.numbers j no_part laid.legs_follow lt in
        fresh_part layout.shared.items (get_or legs j no_part) (get_or (all_legs grid) j []) layout.numbers (are_at layout.shared.items legs (all_legs grid) j laid.legs_are lt) ends.1

-- ---- no leg has a ladder of its own

come_most : (limits : List Limits) → may_come_on limits ≤ length limits
come_most [] = omega arith
come_most (l ∷ limits) = let first = most l in let below = come_most limits in omega (arith, sum_by-cons may_come l limits, first, below)
  where
    most : (l : Limits) → may_come l ≤ 1
    most Absent = omega arith
    most (Shared i) = omega arith
    most (Own i) = omega arith

not_shared : (l : Limits) (i : ℕ) → may_come l ≡ 1 → l ≡ Own i → ⊥
not_shared l i h e = let none : 0 ≡ 1 = ap may_come (sym e) ∙ h in absurd (omega (arith, none))

come_laid : (run : List ℕ) (legs : List LegPart) (from : ℕ) (flights : List FlightPart) (end : ℕ)
    → Follow (λ (f : FlightPart). f.first) (λ (f : FlightPart). f.legs) from flights end
    → from + yet_to_come (all_limits (flights_by run legs flights)) ≤ end
come_laid run legs from [] end follow = omega (arith, follow)
come_laid run legs from (f ∷ flights) end follow =
    let below = come_laid run legs (from + f.legs) flights end follow.1 in
    let here = come_most (limits_in (legs_by run legs f)) in
    let as_many : length (limits_in (legs_by run legs f)) ≡ length (part legs f.first f.legs) = length-map (legs_by run legs f) (λ (c : CountedLeg). c.limits) ∙ length-map (part legs f.first f.legs) (counted_by run) in
    omega (arith, below, here, as_many, length-take f.legs (drop f.first legs), sum_by-cons may_come_on (limits_in (legs_by run legs f)) (all_limits (flights_by run legs flights)))

own_laid : (layout : Layout) (grid : Ladders) (run : List ℕ) (places : ℕ) → IsLaid layout grid
    → length layout.legs.items ≤ places
    → HaveOwn 0 places (all_limits (flights_by run layout.legs.items layout.flights.items))
own_laid layout grid run places laid le = record {
  there = λ f at i e. absurd (none f at i e);
  apart = λ f at g k i e d. absurd (none f at i e);
  reserved = omega (arith, le, come_laid run layout.legs.items 0 layout.flights.items (length layout.legs.items) laid.flights_follow);
}
  where
    legs : List LegPart
    legs = layout.legs.items

    come : (f at : ℕ) → may_come (part_of legs layout.flights.items f at).limits ≡ 1
    come f at = each_part (λ (l : LegPart). may_come l.limits ≡ 1) legs layout.flights.items f at refl (λ j lt. (are_at layout.shared.items legs (all_legs grid) j laid.legs_are lt).come)

    none : (f at i : ℕ) → limits_at (all_limits (flights_by run legs layout.flights.items)) f at ≡ Own i → ⊥
    none f at i e =
        let same : (part_of legs layout.flights.items f at).limits ≡ limits_at (all_limits (flights_by run legs layout.flights.items)) f at =
        sym (limits_seen_at (flights_by run legs layout.flights.items) f at ∙ ap (λ (c : CountedLeg). c.limits) (leg_counted run legs layout.flights.items f at)) in
        not_shared (part_of legs layout.flights.items f at).limits i (come f at) (same ∙ e)

-- ---- the counters over it

pub layout_laid : (layout : Layout) (grid : Ladders) (run : List ℕ) → IsLaid layout grid → run ≡ replicate layout.numbers 0
    → AreLaidOut run layout.legs.items layout.flights.items
layout_laid layout grid run laid e = record {
  legs_follow = subst (λ (n : ℕ). LegsFollow layout.legs.items n) (sym (ap length e ∙ length-replicate {A = ℕ} layout.numbers 0)) laid.legs_follow;
  flights_follow = laid.flights_follow;
}

-- what new counters are made of
pub record AreNew (layout : Layout) (grid : Ladders) (run : List ℕ) (own : List Steps) (places most : ℕ) (flights : List (List CountedLeg)) : Type 0 where
  pub laid : IsLaid layout grid
  pub no_seats : run ≡ replicate layout.numbers 0
  pub no_own : own ≡ []
  pub count : places ≡ length layout.legs.items
  pub numbered : places ≤ 4294967295
  pub reserved : places ≤ most
  pub flights_are : flights ≡ flights_by run layout.legs.items layout.flights.items

pub are_new : (layout found : Layout) (grid : Ladders) (run : List ℕ) (own : List Steps) (places most : ℕ)
    (legs : List LegPart) (parts : List FlightPart) (flights : List (List CountedLeg)) → IsLaid found grid → layout ≡ found
    → run ≡ replicate layout.numbers 0 → own ≡ [] → places ≡ length legs → places ≤ 4294967295 → places ≤ most
    → legs ≡ layout.legs.items → parts ≡ layout.flights.items → flights ≡ flights_by run legs parts
    → AreNew layout grid run own places most flights
are_new layout found grid run own places most legs parts flights laid is seats no_own count numbered reserved legs_are parts_are flights_are = record {
  laid = subst (λ (l : Layout). IsLaid l grid) (sym is) laid;
  no_seats = seats;
  no_own = no_own;
  count = count ∙ ap length legs_are;
  numbered = numbered;
  reserved = reserved;
  flights_are = flights_are ∙ ap (λ (l : List LegPart). flights_by run l parts) legs_are ∙ ap (flights_by run layout.legs.items) parts_are;
}

new_flights : (layout : Layout) (grid : Ladders) (run : List ℕ) (own : List Steps) (places most : ℕ)
    (flights : List (List CountedLeg)) → AreNew layout grid run own places most flights
    → all_seen (pool_of layout.shared.items own) flights
    ≡ all_seen (pool_of layout.shared.items []) (flights_by (replicate layout.numbers 0) layout.legs.items layout.flights.items)
new_flights layout grid run own places most flights new =
    ap (λ (o : List Steps). all_seen (pool_of layout.shared.items o) flights) new.no_own
    ∙ ap (all_seen (pool_of layout.shared.items [])) (new.flights_are ∙ ap (λ (r : List ℕ). flights_by r layout.legs.items layout.flights.items) new.no_seats)

pub new_limits : (layout : Layout) (grid : Ladders) (run : List ℕ) (own : List Steps) (places most : ℕ)
    (flights : List (List CountedLeg)) → AreNew layout grid run own places most flights
    → limits_of (all_seen (pool_of layout.shared.items own) flights) ≡ grid
new_limits layout grid run own places most flights new =
    ap limits_of (new_flights layout grid run own places most flights new) ∙ limits_laid layout grid (replicate layout.numbers 0) new.laid

pub new_seats : (layout : Layout) (grid : Ladders) (run : List ℕ) (own : List Steps) (places most : ℕ)
    (flights : List (List CountedLeg)) → AreNew layout grid run own places most flights → (flight leg class : ℕ)
    → table_of (all_seen (pool_of layout.shared.items own) flights) flight leg class ≡ 0
new_seats layout grid run own places most flights new flight leg class =
    ap (λ (c : Counted). table_of c flight leg class) (new_flights layout grid run own places most flights new) ∙ (fresh_laid layout grid new.laid flight leg).none class

pub new_counters : (layout : Layout) (grid : Ladders) (run : List ℕ) (own : List Steps) (places most : ℕ)
    (flights : List (List CountedLeg)) → AreNew layout grid run own places most flights
    → AreCounters (pool_of layout.shared.items own) most flights
new_counters layout grid run own places most flights new = record {
  kept = record { leg_kept = λ f at. subst (λ (c : Counted). KeepsLimits (leg_at c f at)) (sym (new_flights layout grid run own places most flights new)) (fresh_laid layout grid new.laid f at).kept };
  owned = owned most (omega (arith, new.count, new.reserved));
  numbered = owned 4294967295 (omega (arith, new.count, new.numbered));
}
  where
    owned : (n : ℕ) → length layout.legs.items ≤ n → HaveOwn (length own) n (all_limits flights)
    owned n le =
        subst (λ (o : List Steps). HaveOwn (length o) n (all_limits flights)) (sym new.no_own)
        (subst (λ (f : List (List CountedLeg)). HaveOwn 0 n (all_limits f)) (sym new.flights_are) (own_laid layout grid run n new.laid le))
