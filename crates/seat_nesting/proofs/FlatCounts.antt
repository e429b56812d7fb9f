-- Counters in one run: what is written in the run, or of where limits stand, is one leg's alone.
use Rattle.std.proofs.Common.{◌≡◌, ◌≢◌, ◌==◌, ℕ, zero, suc, ◌+◌, ◌-◌, ◌<◌, ◌≤◌, Bool, true, false, cond, nat_lt, Option, Some, None, List, [], ◌∷◌, ◌++◌, length, drop, map, take, get_or, set, unwrap_or, refl, ap, sym, subst, ◌∙◌, arith}
use Rattle.std.specs.List.{slice_get, slice_range}
use Rattle.std.proofs.lemmas.Bool.{eqb-true, eqb-false}
use Rattle.std.proofs.lemmas.Bool.Decides.{nat_tests}
use Rattle.std.proofs.lemmas.List.{map-set, get_or_past, get_or-drop, get_or-take, length-set, length-map, length-take}
use Rattle.std.proofs.lemmas.Option.{unwrap_or-slice_get, slice_get-get_or}
use Rattle.seat_nesting.specs.OwnLadders.{CountedLeg, counted_at, counted_in, held_at, no_counted, put, with_held, with_limits}
use Rattle.seat_nesting.specs.FlatCounts.{part, Follow, held_in, counted_by, legs_by, flights_by, index_on, leg_index, no_part, no_flight, LegsFollow, FlightsFollow, AreLaidOut}
use Rattle.seat_nesting.specs.declared.counted_flights.LegPart.{LegPart}
use Rattle.seat_nesting.specs.declared.counted_flights.FlightPart.{FlightPart}
use Rattle.seat_nesting.specs.declared.limits.Limits.{Limits}
use Rattle.seat_nesting.proofs.LegCounting.{get_or_any}
use Rattle.seat_nesting.proofs.Parts.{map_each, set_but, map_but, part_before, part_here, part_behind, part_at, part_past, part_length, follow_at, follow_apart, follow_set}

-- one of many
pub at_map : {X Y : Type 0} (f : X → Y) (xs : List X) (i : ℕ) (d : X)
    → unwrap_or (slice_get (map f xs) i) (f d) ≡ f (unwrap_or (slice_get xs i) d)
at_map f [] i d = refl
at_map f (x ∷ xs) zero d = refl
at_map f (x ∷ xs) (suc i) d = at_map f xs i d

abbrev leg_starts : LegPart → ℕ
leg_starts l = l.start

abbrev leg_sizes : LegPart → ℕ
leg_sizes l = l.ranks

abbrev flight_starts : FlightPart → ℕ
flight_starts f = f.first

abbrev flight_sizes : FlightPart → ℕ
flight_sizes f = f.legs

abbrev pub flight_at : List FlightPart → ℕ → FlightPart
flight_at flights flight = unwrap_or (slice_get flights flight) no_flight

-- the part of a flight's leg
abbrev pub part_of : List LegPart → List FlightPart → ℕ → ℕ → LegPart
part_of legs flights flight leg = unwrap_or (slice_get (part legs (flight_at flights flight).first (flight_at flights flight).legs) leg) no_part

-- ---- where a leg is

pub record IsAt (legs : List LegPart) (flights : List FlightPart) (flight leg i : ℕ) : Type 0 where
  pub flight_there : flight < length flights
  pub leg_there : leg < (flight_at flights flight).legs
  pub index_is : i ≡ (flight_at flights flight).first + leg
  pub inside : i < length legs

index_some : (o : Option FlightPart) (leg i : ℕ) → index_on o leg ≡ Some i
    → (leg < (unwrap_or o no_flight).legs) × (i ≡ (unwrap_or o no_flight).first + leg)
index_some None leg i e = absurd cc
index_some (Some f) leg i e = of (nat_lt leg f.legs) refl e
  where
    of : (b : Bool) → nat_lt leg f.legs ≡ b → cond b (Some (f.first + leg)) None ≡ Some i → (leg < f.legs) × (i ≡ f.first + leg)
    of true h e = (grind (arith, nat_tests, h), cc)
    of false h e = absurd cc

pub some_inside : {X : Type 0} (xs : List X) (i : ℕ) (d : X) (n : X → ℕ) (leg : ℕ) → n d ≡ 0 → leg < n (unwrap_or (slice_get xs i) d) → i < length xs
some_inside [] i d n leg none h = absurd (omega (arith, none, h))
some_inside (x ∷ xs) zero d n leg none h = omega arith
some_inside (x ∷ xs) (suc i) d n leg none h = let below = some_inside xs i d n leg none h in omega (arith, below)

pub is_at : (run : List ℕ) (legs : List LegPart) (flights : List FlightPart) (flight leg i : ℕ) → AreLaidOut run legs flights
    → leg_index flights flight leg ≡ Some i → IsAt legs flights flight leg i
is_at run legs flights flight leg i laid e =
    let p = index_some (slice_get flights flight) leg i e in
    let there = some_inside flights flight no_flight flight_sizes leg refl p.0 in
    let same : flight_at flights flight ≡ get_or flights flight no_flight = unwrap_or-slice_get flights flight no_flight in
    let ends = follow_at flight_starts flight_sizes 0 flights (length legs) flight no_flight laid.flights_follow there in
    record { flight_there = there; leg_there = p.0; index_is = p.1; inside = omega (arith, p.0, p.1, ends.1, ap flight_starts same, ap flight_sizes same) }

-- ---- what is counted of a leg

flight_counted : (run : List ℕ) (legs : List LegPart) (flights : List FlightPart) (flight : ℕ)
    → unwrap_or (slice_get (flights_by run legs flights) flight) [] ≡ legs_by run legs (flight_at flights flight)
flight_counted run legs flights flight = at_map (legs_by run legs) flights flight no_flight

pub leg_counted : (run : List ℕ) (legs : List LegPart) (flights : List FlightPart) (flight leg : ℕ)
    → counted_at (flights_by run legs flights) flight leg ≡ counted_by run (part_of legs flights flight leg)
leg_counted run legs flights flight leg =
    ap (λ (l : List CountedLeg). counted_in l leg) (flight_counted run legs flights flight)
    ∙ at_map (counted_by run) (part legs (flight_at flights flight).first (flight_at flights flight).legs) leg no_part

part_is : (legs : List LegPart) (flights : List FlightPart) (flight leg i : ℕ) (d : LegPart) → IsAt legs flights flight leg i
    → part_of legs flights flight leg ≡ get_or legs i no_part
part_is legs flights flight leg i d at =
    part_at legs (flight_at flights flight).first (flight_at flights flight).legs leg no_part at.leg_there
    ∙ ap (λ (k : ℕ). get_or legs k no_part) (sym at.index_is)

-- what is counted of a leg that is found
pub found_counted : (run : List ℕ) (legs : List LegPart) (flights : List FlightPart) (flight leg i : ℕ)
    → IsAt legs flights flight leg i
    → counted_at (flights_by run legs flights) flight leg ≡ counted_by run (get_or legs i no_part)
found_counted run legs flights flight leg i at =
    leg_counted run legs flights flight leg ∙ ap (counted_by run) (part_is legs flights flight leg i no_part at)

-- and of one that is not
pub none_counted : (run : List ℕ) (legs : List LegPart) (flights : List FlightPart) (flight leg : ℕ)
    → leg_index flights flight leg ≡ None → counted_at (flights_by run legs flights) flight leg ≡ no_counted
none_counted run legs flights flight leg e =
    leg_counted run legs flights flight leg ∙ ap (counted_by run) (part_past legs (flight_at flights flight).first (flight_at flights flight).legs leg no_part (past (slice_get flights flight) e))
  where
    past : (o : Option FlightPart) → index_on o leg ≡ None → (unwrap_or o no_flight).legs ≤ leg
    past None e = omega arith
    past (Some f) e = of (nat_lt leg f.legs) refl e
      where
        of : (b : Bool) → nat_lt leg f.legs ≡ b → cond b (Some (f.first + leg)) None ≡ None → f.legs ≤ leg
        of true h e = absurd cc
        of false h e = grind (arith, nat_tests, h)

-- as many legs as a flight has
pub legs_counted : (run : List ℕ) (legs : List LegPart) (flights : List FlightPart) (flight : ℕ) → AreLaidOut run legs flights
    → length (unwrap_or (slice_get (flights_by run legs flights) flight) []) ≡ (flight_at flights flight).legs
legs_counted run legs flights flight laid =
    ap length (flight_counted run legs flights flight) ∙ length-map (part legs f.first f.legs) (counted_by run) ∙ of (nat_lt flight (length flights)) refl
  where
    f : FlightPart
    f = flight_at flights flight

    of : (b : Bool) → nat_lt flight (length flights) ≡ b → length (part legs f.first f.legs) ≡ f.legs
    of true h =
        let ends = follow_at flight_starts flight_sizes 0 flights (length legs) flight no_flight laid.flights_follow (grind (arith, nat_tests, h)) in
        let same : f ≡ get_or flights flight no_flight = unwrap_or-slice_get flights flight no_flight in
        part_length legs f.first f.legs (omega (arith, ends.1, ap flight_starts same, ap flight_sizes same))
    of false h =
        let past : f ≡ no_flight = unwrap_or-slice_get flights flight no_flight ∙ get_or_past flights flight no_flight (grind (arith, nat_tests, h)) in
        subst (λ (g : FlightPart). length (part legs g.first g.legs) ≡ g.legs) (sym past) refl

-- ---- another leg is elsewhere

other_leg : (run : List ℕ) (legs : List LegPart) (end i j rank x : ℕ) → LegsFollow legs end → i < length legs → j ≢ i
    → rank < (get_or legs i no_part).ranks
    → held_in (set run ((get_or legs i no_part).start + rank) x) (get_or legs j no_part)
    ≡ held_in run (get_or legs j no_part)
other_leg run legs end i j rank x follow inside other lt = of (nat_lt j i) (nat_lt j (length legs)) refl refl
  where
    written : ℕ
    written = (get_or legs i no_part).start + rank

    of : (b c : Bool) → nat_lt j i ≡ b → nat_lt j (length legs) ≡ c
        → held_in (set run written x) (get_or legs j no_part) ≡ held_in run (get_or legs j no_part)
    of true c h there =
        let before : j < i = grind (arith, nat_tests, h) in
        let apart = follow_apart leg_starts leg_sizes 0 legs end j i no_part follow before inside in
        part_behind run written (get_or legs j no_part).start (get_or legs j no_part).ranks x (omega (arith, apart))
    of false true h there =
        let not_before : i ≤ j = grind (arith, nat_tests, h) in
        let behind : i < j = omega (arith, not_before, other) in
        let is_there : j < length legs = grind (arith, nat_tests, there) in
        let apart = follow_apart leg_starts leg_sizes 0 legs end i j no_part follow behind is_there in
        part_before run written (get_or legs j no_part).start (get_or legs j no_part).ranks x (omega (arith, apart, lt))
    of false false h there =
        let past : length legs ≤ j = grind (arith, nat_tests, there) in
        let none : get_or legs j no_part ≡ no_part = get_or_past legs j no_part past in
        subst (λ (l : LegPart). held_in (set run written x) l ≡ held_in run l) (sym none) refl

-- the legs of two flights are apart
flights_apart : (flights : List FlightPart) (end f g : ℕ) → FlightsFollow flights end → f ≢ g → g < length flights
    → f < length flights
    → (i at : ℕ) → i < (flight_at flights f).legs → at < (flight_at flights g).legs
    → (flight_at flights f).first + i ≢ (flight_at flights g).first + at
flights_apart flights end f g follow other g_there f_there i at i_in at_in = of (nat_lt f g) refl
  where
    f_is : flight_at flights f ≡ get_or flights f no_flight
    f_is = unwrap_or-slice_get flights f no_flight

    g_is : flight_at flights g ≡ get_or flights g no_flight
    g_is = unwrap_or-slice_get flights g no_flight

    of : (b : Bool) → nat_lt f g ≡ b → (flight_at flights f).first + i ≢ (flight_at flights g).first + at
    of true h e =
        let before : f < g = grind (arith, nat_tests, h) in
        let apart = follow_apart flight_starts flight_sizes 0 flights end f g no_flight follow before g_there in
        absurd (omega (arith, apart, e, i_in, ap flight_starts f_is, ap flight_sizes f_is, ap flight_starts g_is))
    of false h e =
        let not_before : g ≤ f = grind (arith, nat_tests, h) in
        let behind : g < f = omega (arith, not_before, other) in
        let apart = follow_apart flight_starts flight_sizes 0 flights end g f no_flight follow behind f_there in
        absurd (omega (arith, apart, e, at_in, ap flight_starts g_is, ap flight_sizes g_is, ap flight_starts f_is))

-- what holds of no leg and of each other leg holds of the leg of another flight, or at another place
elsewhere : (P : LegPart → Type 0) (legs : List LegPart) (flights : List FlightPart) (flight leg i f at : ℕ)
    → FlightsFollow flights (length legs) → IsAt legs flights flight leg i → ((f ≡ flight) × (at ≡ leg) → ⊥)
    → P no_part → ((j : ℕ) → j ≢ i → P (get_or legs j no_part)) → P (part_of legs flights f at)
elsewhere P legs flights flight leg i f at follow is other none all = of (nat_lt at (flight_at flights f).legs) (f == flight) refl refl
  where
    first : ℕ
    first = (flight_at flights f).first

    of : (b c : Bool) → nat_lt at (flight_at flights f).legs ≡ b → (f == flight) ≡ c → P (part_of legs flights f at)
    of true true h e =
        let same : f ≡ flight = eqb-true f flight e in
        let lt : at < (flight_at flights f).legs = grind (arith, nat_tests, h) in
        let ne : at ≢ leg = λ d. other (same, d) in
        let firsts : first ≡ (flight_at flights flight).first = ap (λ (k : ℕ). (flight_at flights k).first) same in
        let away : first + at ≢ i = λ d. absurd (omega (arith, ne, firsts, is.index_is, d)) in
        subst P (sym (part_at legs first (flight_at flights f).legs at no_part lt)) (all (first + at) away)
    of true false h e =
        let ne : f ≢ flight = eqb-false f flight e in
        let lt : at < (flight_at flights f).legs = grind (arith, nat_tests, h) in
        let there = some_inside flights f no_flight flight_sizes at refl lt in
        let apart = flights_apart flights (length legs) f flight follow ne is.flight_there there at leg lt is.leg_there in
        let away : first + at ≢ i = λ d. apart (d ∙ is.index_is) in
        subst P (sym (part_at legs first (flight_at flights f).legs at no_part lt)) (all (first + at) away)
    of false c h e =
        let past : (flight_at flights f).legs ≤ at = grind (arith, nat_tests, h) in
        subst P (sym (part_past legs first (flight_at flights f).legs at no_part past)) none

-- ---- a number that is written

abbrev pub of_held : Limits → List ℕ → CountedLeg
of_held limits held = record { limits = limits; held = held }

-- the leg whose number it is
here_written : (run : List ℕ) (l : LegPart) (rank x : ℕ) → rank < l.ranks
    → counted_by (set run (l.start + rank) x) l ≡ with_held (counted_by run l) rank x
here_written run l rank x lt = ap (of_held l.limits) (part_here run l.start l.ranks rank x lt)

pub number_written : (run : List ℕ) (legs : List LegPart) (flights : List FlightPart) (flight leg i rank x : ℕ)
    → AreLaidOut run legs flights → IsAt legs flights flight leg i → rank < (get_or legs i no_part).ranks
    → flights_by (set run ((get_or legs i no_part).start + rank) x) legs flights
    ≡ put (flights_by run legs flights) flight leg (with_held (counted_at (flights_by run legs flights) flight leg) rank x)
number_written run legs flights flight leg i rank x laid is lt =
    map_but (legs_by new legs) (legs_by run legs) flights flight no_flight
    (λ f ne. map_each (counted_by new) (counted_by run) (part legs (flight_at flights f).first (flight_at flights f).legs) no_part (λ at. beside f at (λ e. ne e.0)))
    ∙ ap (set (flights_by run legs flights) flight) (its_legs ∙ there)
  where
    new : List ℕ
    new = set run ((get_or legs i no_part).start + rank) x

    its : FlightPart
    its = flight_at flights flight

    beside : (f at : ℕ) → ((f ≡ flight) × (at ≡ leg) → ⊥)
        → counted_by new (part_of legs flights f at) ≡ counted_by run (part_of legs flights f at)
    beside f at ne =
        elsewhere (λ (l : LegPart). counted_by new l ≡ counted_by run l) legs flights flight leg i f at laid.flights_follow is ne refl
        (λ j other. ap (of_held (get_or legs j no_part).limits) (other_leg run legs (length run) i j rank x laid.legs_follow is.inside other lt))

    its_legs : legs_by new legs its
        ≡ set (legs_by run legs its) leg (counted_by new (part_of legs flights flight leg))
    its_legs = map_but (counted_by new) (counted_by run) (part legs its.first its.legs) leg no_part (λ at ne. beside flight at (λ e. ne e.1))

    written : counted_by new (part_of legs flights flight leg)
        ≡ with_held (counted_at (flights_by run legs flights) flight leg) rank x
    written =
        ap (counted_by new) (part_is legs flights flight leg i no_part is)
        ∙ here_written run (get_or legs i no_part) rank x lt
        ∙ ap (λ (c : CountedLeg). with_held c rank x) (sym (found_counted run legs flights flight leg i is))

    there : set (legs_by run legs its) leg (counted_by new (part_of legs flights flight leg))
        ≡ set (unwrap_or (slice_get (flights_by run legs flights) flight) []) leg (with_held (counted_at (flights_by run legs flights) flight leg) rank x)
    there =
        ap (set (legs_by run legs its) leg) written
        ∙ ap (λ (l : List CountedLeg). set l leg (with_held (counted_at (flights_by run legs flights) flight leg) rank x)) (sym (flight_counted run legs flights flight))

pub still_laid : (run : List ℕ) (legs : List LegPart) (flights : List FlightPart) (k x : ℕ) → AreLaidOut run legs flights
    → AreLaidOut (set run k x) legs flights
still_laid run legs flights k x laid = record {
  legs_follow = subst (λ (n : ℕ). LegsFollow legs n) (sym (length-set run k x)) laid.legs_follow;
  flights_follow = laid.flights_follow;
}

-- ---- limits that stand elsewhere

abbrev moved : LegPart → Limits → LegPart
moved l limits = record l { limits = limits }

other_part : (legs : List LegPart) (flights : List FlightPart) (flight leg i f : ℕ) (y : LegPart)
    → FlightsFollow flights (length legs) → IsAt legs flights flight leg i → f ≢ flight
    → part (set legs i y) (flight_at flights f).first (flight_at flights f).legs
    ≡ part legs (flight_at flights f).first (flight_at flights f).legs
other_part legs flights flight leg i f y follow is other = of (nat_lt f (length flights)) (nat_lt f flight) refl refl
  where
    f_is : flight_at flights f ≡ get_or flights f no_flight
    f_is = unwrap_or-slice_get flights f no_flight

    its : flight_at flights flight ≡ get_or flights flight no_flight
    its = unwrap_or-slice_get flights flight no_flight

    of : (b c : Bool) → nat_lt f (length flights) ≡ b → nat_lt f flight ≡ c
        → part (set legs i y) (flight_at flights f).first (flight_at flights f).legs
        ≡ part legs (flight_at flights f).first (flight_at flights f).legs
    of true true there h =
        let before : f < flight = grind (arith, nat_tests, h) in
        let apart = follow_apart flight_starts flight_sizes 0 flights (length legs) f flight no_flight follow before is.flight_there in
        part_behind legs i (flight_at flights f).first (flight_at flights f).legs y (omega (arith, apart, is.index_is, ap flight_starts f_is, ap flight_sizes f_is, ap flight_starts its))
    of true false there h =
        let not_before : flight ≤ f = grind (arith, nat_tests, h) in
        let behind : flight < f = omega (arith, not_before, other) in
        let f_there : f < length flights = grind (arith, nat_tests, there) in
        let apart = follow_apart flight_starts flight_sizes 0 flights (length legs) flight f no_flight follow behind f_there in
        part_before legs i (flight_at flights f).first (flight_at flights f).legs y (omega (arith, apart, is.index_is, is.leg_there, ap flight_starts f_is, ap flight_starts its, ap flight_sizes its))
    of false c there h =
        let past : length flights ≤ f = grind (arith, nat_tests, there) in
        let none : flight_at flights f ≡ no_flight = f_is ∙ get_or_past flights f no_flight past in
        subst (λ (g : FlightPart). part (set legs i y) g.first g.legs ≡ part legs g.first g.legs) (sym none) refl

pub limits_moved : (run : List ℕ) (legs : List LegPart) (flights : List FlightPart) (flight leg i : ℕ) (limits : Limits)
    → AreLaidOut run legs flights → IsAt legs flights flight leg i
    → flights_by run (set legs i (moved (get_or legs i no_part) limits)) flights
    ≡ put (flights_by run legs flights) flight leg (with_limits (counted_at (flights_by run legs flights) flight leg) limits)
limits_moved run legs flights flight leg i limits laid is =
    map_but (legs_by run new) (legs_by run legs) flights flight no_flight
    (λ f ne. ap (map (counted_by run)) (other_part legs flights flight leg i f y laid.flights_follow is ne))
    ∙ ap (set (flights_by run legs flights) flight) (its_legs ∙ there)
  where
    y : LegPart
    y = moved (get_or legs i no_part) limits

    new : List LegPart
    new = set legs i y

    its : FlightPart
    its = flight_at flights flight

    its_legs : legs_by run new its ≡ set (legs_by run legs its) leg (counted_by run y)
    its_legs =
        ap (λ (k : ℕ). map (counted_by run) (part (set legs k y) its.first its.legs)) is.index_is
        ∙ ap (map (counted_by run)) (part_here legs its.first its.legs leg y is.leg_there)
        ∙ map-set (counted_by run) (part legs its.first its.legs) leg y

    there : set (legs_by run legs its) leg (counted_by run y)
        ≡ set (unwrap_or (slice_get (flights_by run legs flights) flight) []) leg (with_limits (counted_at (flights_by run legs flights) flight leg) limits)
    there =
        ap (λ (c : CountedLeg). set (legs_by run legs its) leg (with_limits c limits)) (sym (found_counted run legs flights flight leg i is))
        ∙ ap (λ (l : List CountedLeg). set l leg (with_limits (counted_at (flights_by run legs flights) flight leg) limits)) (sym (flight_counted run legs flights flight))

pub moved_laid : (run : List ℕ) (legs : List LegPart) (flights : List FlightPart) (i : ℕ) (limits : Limits)
    → AreLaidOut run legs flights
    → AreLaidOut run (set legs i (moved (get_or legs i no_part) limits)) flights
moved_laid run legs flights i limits laid = record {
  legs_follow = follow_set leg_starts leg_sizes 0 legs (length run) i (moved (get_or legs i no_part) limits) no_part laid.legs_follow refl refl;
  flights_follow = subst (λ (n : ℕ). FlightsFollow flights n) (sym (length-set legs i (moved (get_or legs i no_part) limits))) laid.flights_follow;
}

-- ---- what a call that looks for a leg knows

pub record Finds (run : List ℕ) (legs : List LegPart) (flights : List FlightPart) (now : List (List CountedLeg)) (flight leg i : ℕ) (found : LegPart) : Type 0 where
  pub laid : AreLaidOut run legs flights
  pub seen : flights_by run legs flights ≡ now
  pub is_at : IsAt legs flights flight leg i
  pub found_is : found ≡ get_or legs i no_part

pub finds_at : (run : List ℕ) (legs : List LegPart) (flights all : List FlightPart) (flight leg i : ℕ) (o : Option ℕ)
    → AreLaidOut run legs flights → all ≡ flights → o ≡ leg_index all flight leg → o ≡ Some i
    → IsAt legs flights flight leg i
finds_at run legs flights all flight leg i o laid all_are o_is some =
    is_at run legs flights flight leg i laid (ap (λ (f : List FlightPart). leg_index f flight leg) (sym all_are) ∙ sym o_is ∙ some)

pub finds : (run : List ℕ) (legs : List LegPart) (flights all : List FlightPart) (now : List (List CountedLeg))
    (flight leg i : ℕ) (found : LegPart) (o : Option ℕ) → AreLaidOut run legs flights → flights_by run legs flights ≡ now
    → all ≡ flights → o ≡ leg_index all flight leg → o ≡ Some i → found ≡ get_or legs i found
    → Finds run legs flights now flight leg i found
finds run legs flights all now flight leg i found o laid seen all_are o_is some is =
    let at = finds_at run legs flights all flight leg i o laid all_are o_is some in
    record { laid = laid; seen = seen; is_at = at; found_is = is ∙ get_or_any legs i found no_part at.inside }

-- the leg, as it is counted
pub finds_counted : (run : List ℕ) (legs : List LegPart) (flights : List FlightPart) (now : List (List CountedLeg))
    (flight leg i : ℕ) (found : LegPart) → Finds run legs flights now flight leg i found
    → counted_by run found ≡ counted_at now flight leg
finds_counted run legs flights now flight leg i found f =
    ap (counted_by run) f.found_is ∙ sym (found_counted run legs flights flight leg i f.is_at) ∙ ap (λ (n : List (List CountedLeg)). counted_at n flight leg) f.seen

pub finds_ends : (run : List ℕ) (legs : List LegPart) (flights : List FlightPart) (now : List (List CountedLeg))
    (flight leg i : ℕ) (found : LegPart) → Finds run legs flights now flight leg i found
    → found.start + found.ranks ≤ length run
finds_ends run legs flights now flight leg i found f =
    let ends = follow_at leg_starts leg_sizes 0 legs (length run) i no_part f.laid.legs_follow f.is_at.inside in
    omega (arith, ends.1, ap leg_starts f.found_is, ap leg_sizes f.found_is)

-- the rank's number is one of the leg's
pub finds_rank : (run : List ℕ) (legs : List LegPart) (flights : List FlightPart) (now : List (List CountedLeg))
    (flight leg i : ℕ) (found : LegPart) (rank : ℕ) → Finds run legs flights now flight leg i found
    → rank < length (counted_at now flight leg).held → rank < found.ranks
finds_rank run legs flights now flight leg i found rank f lt =
    omega (arith, lt, ap (λ (c : CountedLeg). length c.held) (finds_counted run legs flights now flight leg i found f), length-take found.ranks (drop found.start run))

pub finds_inside : (run : List ℕ) (legs : List LegPart) (flights : List FlightPart) (now : List (List CountedLeg))
    (flight leg i : ℕ) (found : LegPart) (rank : ℕ) → Finds run legs flights now flight leg i found
    → rank < length (counted_at now flight leg).held → found.start + rank < length run
finds_inside run legs flights now flight leg i found rank f lt =
    omega (arith, finds_ends run legs flights now flight leg i found f, finds_rank run legs flights now flight leg i found rank f lt)

-- what stands there
pub finds_number : (run : List ℕ) (legs : List LegPart) (flights : List FlightPart) (now : List (List CountedLeg))
    (flight leg i : ℕ) (found : LegPart) (rank x : ℕ) → Finds run legs flights now flight leg i found
    → rank < length (counted_at now flight leg).held → x ≡ get_or run (found.start + rank) x
    → x ≡ held_at (counted_at now flight leg) rank
finds_number run legs flights now flight leg i found rank x f lt is =
    is ∙ get_or_any run (found.start + rank) x 0 (finds_inside run legs flights now flight leg i found rank f lt)
    ∙ sym (get_or-drop found.start run rank 0)
    ∙ sym (get_or-take found.ranks (drop found.start run) rank 0 (finds_rank run legs flights now flight leg i found rank f lt))
    ∙ ap (λ (c : CountedLeg). held_at c rank) (finds_counted run legs flights now flight leg i found f)

pub finds_written : (run : List ℕ) (legs : List LegPart) (flights : List FlightPart) (now : List (List CountedLeg))
    (flight leg i : ℕ) (found : LegPart) (rank x : ℕ) → Finds run legs flights now flight leg i found
    → rank < length (counted_at now flight leg).held
    → flights_by (set run (found.start + rank) x) legs flights
    ≡ put now flight leg (with_held (counted_at now flight leg) rank x)
finds_written run legs flights now flight leg i found rank x f lt =
    let few = finds_rank run legs flights now flight leg i found rank f lt in
    ap (λ (l : LegPart). flights_by (set run (l.start + rank) x) legs flights) f.found_is
    ∙ number_written run legs flights flight leg i rank x f.laid f.is_at (omega (arith, few, ap leg_sizes f.found_is))
    ∙ ap (λ (n : List (List CountedLeg)). put n flight leg (with_held (counted_at n flight leg) rank x)) f.seen

pub finds_moved : (run : List ℕ) (legs : List LegPart) (flights : List FlightPart) (now : List (List CountedLeg))
    (flight leg i : ℕ) (found : LegPart) (limits : Limits) → Finds run legs flights now flight leg i found
    → flights_by run (set legs i (moved found limits)) flights
    ≡ put now flight leg (with_limits (counted_at now flight leg) limits)
finds_moved run legs flights now flight leg i found limits f =
    ap (λ (l : LegPart). flights_by run (set legs i (moved l limits)) flights) f.found_is
    ∙ limits_moved run legs flights flight leg i limits f.laid f.is_at
    ∙ ap (λ (n : List (List CountedLeg)). put n flight leg (with_limits (counted_at n flight leg) limits)) f.seen

pub finds_laid : (run : List ℕ) (legs : List LegPart) (flights : List FlightPart) (now : List (List CountedLeg))
    (flight leg i : ℕ) (found : LegPart) (limits : Limits) → Finds run legs flights now flight leg i found
    → AreLaidOut run (set legs i (moved found limits)) flights
finds_laid run legs flights now flight leg i found limits f =
    subst (λ (l : LegPart). AreLaidOut run (set legs i (moved l limits)) flights) (sym f.found_is) (moved_laid run legs flights i limits f.laid)

-- as many legs as a flight has
pub finds_legs : (run : List ℕ) (legs : List LegPart) (flights all : List FlightPart) (now : List (List CountedLeg))
    (flight : ℕ) (found : FlightPart) → AreLaidOut run legs flights → flights_by run legs flights ≡ now → all ≡ flights
    → flight < length all → found ≡ get_or all flight found
    → found.legs ≡ length (unwrap_or (slice_get now flight) [])
finds_legs run legs flights all now flight found laid seen all_are lt is =
    ap flight_sizes (is ∙ get_or_any all flight found no_flight lt ∙ sym (unwrap_or-slice_get all flight no_flight))
    ∙ ap (λ (f : List FlightPart). (flight_at f flight).legs) all_are
    ∙ sym (legs_counted run legs flights flight laid)
    ∙ ap (λ (n : List (List CountedLeg)). length (unwrap_or (slice_get n flight) [])) seen

pub finds_no_legs : (run : List ℕ) (legs : List LegPart) (flights all : List FlightPart) (now : List (List CountedLeg))
    (flight : ℕ) → AreLaidOut run legs flights → flights_by run legs flights ≡ now → all ≡ flights
    → false ≡ nat_lt flight (length all) → 0 ≡ length (unwrap_or (slice_get now flight) [])
finds_no_legs run legs flights all now flight laid seen all_are out =
    let past : length all ≤ flight = grind (arith, nat_tests, out) in
    ap flight_sizes (sym (unwrap_or-slice_get all flight no_flight ∙ get_or_past all flight no_flight past))
    ∙ ap (λ (f : List FlightPart). (flight_at f flight).legs) all_are
    ∙ sym (legs_counted run legs flights flight laid)
    ∙ ap (λ (n : List (List CountedLeg)). length (unwrap_or (slice_get n flight) [])) seen
