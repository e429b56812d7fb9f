-- The walk along the itineraries.
use Rattle.std.proofs.Common.{◌≡◌, ℕ, ◌+◌, ◌<◌, ◌≤◌, Bool, true, false, cond, nat_lt, nat_eq, ◌||◌, ◌&&◌, IsTrue, List, [], ◌∷◌, ◌++◌, length, get_or, map, take, drop, All, Option, Some, None, refl, sym, ap, subst, ◌∙◌, inl, inr, ⊎_elim, unwrap_or, append-nil, arith, length-append}
use Rattle.ssim_flights.proofs.Common.{list_any, IsDistinct, Leg, FlightFault, Flight, Departure, Plan, Scheduled, chain, missing_leg, repeated_leg, broken_chain, days_fault, departures_on, fault_of, leg_one_if, rows, schedule, flights_on, flight_on}
use Rattle.std.specs.Option.{option_or}
use Rattle.std.specs.List.{flat_map}
use Rattle.std.specs.Cmp.Lexicographic.{pointwise}
use Rattle.std.proofs.lemmas.Bool.{ltb-false}
use Rattle.std.proofs.lemmas.List.{take_more, take_all, length-map}
use Rattle.std.proofs.lemmas.List.Concat.{flat_map-append}
use Rattle.std.proofs.lemmas.List.Elements.{All-nil, All-append, All-filter, All-map, All-from_get_or}
use Rattle.std.proofs.lemmas.List.Folds.{list_any-append}
use Rattle.std.proofs.lemmas.Map.Keys.{IsDistinct-from_apart}
use Rattle.ssim_flights.specs.declared.adding.Flown.{Flown}
use Rattle.ssim_flights.specs.declared.fault.FlightKind.{FlightKind}
use Rattle.ssim_flights.specs.declared.fault.FlightKind.TheVariants as kinds
use Rattle.ssim_flights.specs.Adding.{IsAdded, IsFlown}
use Rattle.ssim_flights.specs.LegChains.{sequences, first_record_if, broken_after}
use Rattle.ssim_flights.specs.Few.{AreFew, AreJoined, joins_after, joins_up}
use Rattle.ssim_flights.specs.Flown.{all_departures, dated_flights, departures_of, fault_after, first_fault, flights_of, found, is_taken, same_departure, IsRefusal}
use Rattle.ssim_flights.specs.Itineraries.{itineraries, legs_of, name_of, names_after, same_name}
use Rattle.ssim_flights.specs.Schedules.{differing, falling_back, scheduled, dated_leg}
use Rattle.ssim_flights.specs.Taken.{has_departure}
use Rattle.ssim_flights.specs.Timetables.{flights_in, IsTable}
use Rattle.ssim_flights.proofs.Departing.{distinct_more, own_distinct, same_tests, untaken}
use Rattle.ssim_flights.proofs.Walks.{drop_step}

-- ---- what the absence of a fault says

found_parts : (kind : FlightKind) (o : Option ℕ) (later : Option FlightFault) → found kind o later ≡ None
    → (o ≡ None) × (later ≡ None)
found_parts kind None later e = (refl, e)
found_parts kind (Some serial) later e = cc

record HasFewFlights (plan : Plan) (count : ℕ) (legs : List Leg) (chained : List Scheduled) : Type 0 where
  short : first_record_if (nat_lt 8 (length chained)) legs ≡ None
  few : leg_one_if (nat_lt plan.most (count + length (flights_on plan chained))) chained ≡ None

days_few : (plan : Plan) (taken : Departure → Bool) (count : ℕ) (legs : List Leg) (chained : List Scheduled)
    → days_fault plan taken count legs chained ≡ None → HasFewFlights plan count legs chained
unfolding days_fault
days_few plan taken count legs chained e =
    let a = found_parts kinds.LegDatesDiffer (differing chained) _ e in
    let b = found_parts kinds.DatesFallBack (falling_back plan chained) _ a.1 in
    let c = found_parts kinds.TwiceOnDate (leg_one_if (list_any taken (departures_on plan chained)) chained) _ b.1 in
    let d = found_parts kinds.TooManyLegs (first_record_if (nat_lt 8 (length chained)) legs) _ c.1 in
    let f = found_parts kinds.TooManyFlights (leg_one_if (nat_lt plan.most (count + length (flights_on plan chained))) chained) None d.1 in
    record { short = d.0; few = f.0 }

fault_few : (plan : Plan) (taken : Departure → Bool) (count : ℕ) (legs : List Leg)
    → fault_of plan taken count legs ≡ None → HasFewFlights plan count legs (schedule plan (chain legs))
unfolding fault_of
fault_few plan taken count legs e =
    let a = found_parts kinds.MissingLeg (missing_leg legs) _ e in
    let b = found_parts kinds.RepeatedLeg (repeated_leg legs) _ a.1 in
    let c = found_parts kinds.BrokenChain (broken_chain (chain legs)) _ b.1 in
    days_few plan taken count legs (schedule plan (chain legs)) c.1

few_after : (plan : Plan) (count : ℕ) (chained : List Scheduled) → count ≤ plan.most
    → leg_one_if (nat_lt plan.most (count + length (flights_on plan chained))) chained ≡ None
    → count + length (flights_on plan chained) ≤ plan.most
unfolding flights_on
few_after plan count [] few none = omega arith
few_after plan count (leg ∷ legs) few none = by (nat_lt plan.most (count + length (flights_on plan (leg ∷ legs)))) refl none
  where
    by : (b : Bool) → nat_lt plan.most (count + length (flights_on plan (leg ∷ legs))) ≡ b
        → cond b (Some leg.leg.serial) None ≡ None → count + length (flights_on plan (leg ∷ legs)) ≤ plan.most
    by true e h = cc
    by false e h = ltb-false _ _ e

short_on : (plan : Plan) (chained : List Scheduled) → length chained ≤ 8
    → All (λ f. length f.legs ≤ 8) (flights_on plan chained)
unfolding flights_on
short_on plan [] few = All-nil (λ f. length f.legs ≤ 8)
short_on plan (leg ∷ legs) few =
    All-map (λ f. length f.legs ≤ 8) (flight_on plan leg.leg (leg ∷ legs)) (rows plan (leg ∷ legs))
    (All-from_get_or (λ i. length (map (dated_leg i) (leg ∷ legs)) ≤ 8) (rows plan (leg ∷ legs)) 0
    (λ k h. let n = length-map (leg ∷ legs) (dated_leg (get_or (rows plan (leg ∷ legs)) k 0)) in omega arith))

few_legs : (plan : Plan) (legs : List Leg) → first_record_if (nat_lt 8 (length (schedule plan (chain legs)))) legs ≡ None
    → length (schedule plan (chain legs)) ≤ 8
unfolding chain sequences
few_legs plan [] none = omega arith
few_legs plan (leg ∷ legs) none = by (nat_lt 8 (length (schedule plan (chain (leg ∷ legs))))) refl none
  where
    by : (b : Bool) → nat_lt 8 (length (schedule plan (chain (leg ∷ legs)))) ≡ b → cond b (Some leg.serial) None ≡ None
        → length (schedule plan (chain (leg ∷ legs))) ≤ 8
    by true e h = cc
    by false e h = ltb-false _ _ e

-- a chain without fault has at most 8 legs
pub short_chain : (plan : Plan) (taken : Departure → Bool) (count : ℕ) (legs : List Leg) (chained : List Scheduled)
    → chained ≡ schedule plan (chain legs) → days_fault plan taken count legs chained ≡ None → length chained ≤ 8
short_chain plan taken count legs chained e none =
    let few = days_few plan taken count legs chained none in
    subst (λ (c : List Scheduled). length c ≤ 8) (sym e)
    (few_legs plan legs (subst (λ (c : List Scheduled). first_record_if (nat_lt 8 (length c)) legs ≡ None) e few.short))

short_after : (plan : Plan) (legs : List Leg)
    → first_record_if (nat_lt 8 (length (schedule plan (chain legs)))) legs ≡ None
    → All (λ f. length f.legs ≤ 8) (flights_on plan (schedule plan (chain legs)))
short_after plan legs none = short_on plan (schedule plan (chain legs)) (few_legs plan legs none)

-- an itinerary without fault is not broken
unbroken : (plan : Plan) (taken : Departure → Bool) (count : ℕ) (legs : List Leg)
    → fault_of plan taken count legs ≡ None → broken_chain (chain legs) ≡ None
unfolding fault_of
unbroken plan taken count legs e =
    let a = found_parts kinds.MissingLeg (missing_leg legs) _ e in
    let b = found_parts kinds.RepeatedLeg (repeated_leg legs) _ a.1 in
    (found_parts kinds.BrokenChain (broken_chain (chain legs)) _ b.1).0

flat_map_more : {A B : Type 0} (f : A → List B) (xs : List A) (i : ℕ) (x : A) → i < length xs → x ≡ get_or xs i x
    → flat_map f (take (i + 1) xs) ≡ flat_map f (take i xs) ++ f x
flat_map_more f xs i x inside is =
    ap (flat_map f) (take_more xs i x inside ∙ ap (λ y. take i xs ++ y ∷ []) (sym is))
    ∙ flat_map-append f (take i xs) (x ∷ []) ∙ ap (λ ys. flat_map f (take i xs) ++ ys) (append-nil (f x))

fresh_days : (plan : Plan) (taken : Departure → Bool) (count : ℕ) (legs : List Leg) (chained : List Scheduled)
    → days_fault plan taken count legs chained ≡ None
    → leg_one_if (list_any taken (departures_on plan chained)) chained ≡ None
unfolding days_fault
fresh_days plan taken count legs chained e =
    let a = found_parts kinds.LegDatesDiffer (differing chained) _ e in
    let b = found_parts kinds.DatesFallBack (falling_back plan chained) _ a.1 in
    (found_parts kinds.TwiceOnDate (leg_one_if (list_any taken (departures_on plan chained)) chained) _ b.1).0

fresh : (plan : Plan) (taken : Departure → Bool) (count : ℕ) (legs : List Leg) → fault_of plan taken count legs ≡ None
    → leg_one_if (list_any taken (departures_on plan (schedule plan (chain legs)))) (schedule plan (chain legs)) ≡ None
unfolding fault_of
fresh plan taken count legs e =
    let a = found_parts kinds.MissingLeg (missing_leg legs) _ e in
    let b = found_parts kinds.RepeatedLeg (repeated_leg legs) _ a.1 in
    let c = found_parts kinds.BrokenChain (broken_chain (chain legs)) _ b.1 in
    fresh_days plan taken count legs (schedule plan (chain legs)) c.1

-- the departures of one itinerary more differ from the earlier ones
distinct_after : (plan : Plan) (all : List (List Leg)) (i : ℕ) (legs : List Leg) (taken : Departure → Bool) (count : ℕ)
    → i < length all → legs ≡ get_or all i legs → ((d : Departure) → taken d ≡ is_taken plan (take i all) d)
    → fault_of plan taken count legs ≡ None → IsDistinct same_departure (flat_map (departures_of plan) (take i all))
    → IsDistinct same_departure (flat_map (departures_of plan) (take (i + 1) all))
unfolding departures_of
distinct_after plan all i legs taken count inside is same none distinct =
    subst (λ (ds : List Departure). IsDistinct same_departure ds) (sym (flat_map_more (departures_of plan) all i legs inside is))
    (distinct_more (flat_map (departures_of plan) (take i all)) (departures_of plan legs) distinct (own_distinct plan (chain legs))
    (same_tests taken (is_taken plan (take i all)) (departures_of plan legs) same
    (untaken taken plan (schedule plan (chain legs)) (fresh plan taken count legs none))))

joins_on : (plan : Plan) (i : ℕ) (before : List ℕ) (legs : List Leg) → broken_after before legs ≡ None
    → joins_after before (map (dated_leg i) (schedule plan legs)) ≡ true
unfolding scheduled
joins_on plan i before [] none = refl
joins_on plan i before (leg ∷ legs) none = by (pointwise nat_eq before leg.board) none (λ rest. joins_on plan i leg.off legs rest)
  where
    by : (b : Bool) → cond b (broken_after leg.off legs) (Some leg.serial) ≡ None
        → (broken_after leg.off legs ≡ None → joins_after leg.off (map (dated_leg i) (schedule plan legs)) ≡ true)
        → (b && joins_after leg.off (map (dated_leg i) (schedule plan legs))) ≡ true
    by true h outer = outer h
    by false h outer = cc

joins : (plan : Plan) (i : ℕ) (legs : List Leg) → broken_chain legs ≡ None
    → joins_up (map (dated_leg i) (schedule plan legs)) ≡ true
unfolding scheduled broken_chain
joins plan i [] none = refl
joins plan i (leg ∷ legs) none = joins_on plan i leg.off legs none

joined_on : (plan : Plan) (legs : List Leg) → broken_chain legs ≡ None
    → AreJoined (flights_on plan (schedule plan legs))
unfolding flights_on
joined_on plan [] none = record { joined = All-nil (λ f. IsTrue (joins_up f.legs)) }
joined_on plan (leg ∷ legs) none = record {
  joined =
      All-map (λ f. IsTrue (joins_up f.legs)) (flight_on plan (scheduled plan leg).leg (schedule plan (leg ∷ legs))) (rows plan (schedule plan (leg ∷ legs)))
      (All-from_get_or (λ i. IsTrue (joins_up (map (dated_leg i) (schedule plan (leg ∷ legs))))) (rows plan (schedule plan (leg ∷ legs))) 0
      (λ k h. joins plan (get_or (rows plan (schedule plan (leg ∷ legs))) k 0) (leg ∷ legs) none));
}

-- ---- the steps

or_flip : (a b : Bool) → (a || b) ≡ (b || a)
or_flip true true = refl
or_flip true false = refl
or_flip false true = refl
or_flip false false = refl

-- the flights so far, and one itinerary more
pub flown_more : (plan : Plan) (all : List (List Leg)) (i : ℕ) (legs : List Leg) (old new : Flown) → i < length all
    → legs ≡ get_or all i legs → IsFlown plan (take i all) old → IsAdded plan legs old new
    → IsFlown plan (take (i + 1) all) new
unfolding flights_of
flown_more plan all i legs old new inside is flown added =
    let checks = fault_few plan (has_departure old.taken) (length (flights_in old.flights)) legs added.faultless in
    let few = few_after plan (length (flights_in old.flights)) (schedule plan (chain legs)) flown.few checks.few in
    record {
      flights = added.flights ∙ ap (λ (fs : List Flight). fs ++ flights_of plan legs) flown.flights ∙ sym (flat_map_more (flights_of plan) all i legs inside is);
      table = added.table;
      taken = λ d. added.taken.at d ∙ ap (λ b. list_any (same_departure d) (departures_of plan legs) || b) (flown.taken d)
          ∙ or_flip (list_any (same_departure d) (departures_of plan legs)) (is_taken plan (take i all) d)
          ∙ sym (list_any-append (same_departure d) (flat_map (departures_of plan) (take i all)) (departures_of plan legs))
          ∙ ap (list_any (same_departure d)) (sym (flat_map_more (departures_of plan) all i legs inside is));
      few = subst (λ (fs : List Flight). length fs ≤ plan.most) (sym added.flights) (subst (λ (n : ℕ). n ≤ plan.most) (sym (length-append (flights_in old.flights) (flights_of plan legs))) few);
      short = subst (λ (fs : List Flight). All (λ f. length f.legs ≤ 8) fs) (sym added.flights)
          (All-append (λ f. length f.legs ≤ 8) (flights_in old.flights) (flights_of plan legs) flown.short (short_after plan legs checks.short));
      joined = subst (λ (fs : List Flight). AreJoined fs) (sym added.flights) (record {
        joined =
            All-append (λ f. IsTrue (joins_up f.legs)) (flights_in old.flights) (flights_of plan legs) flown.joined.joined
            (joined_on plan (chain legs) (unbroken plan (has_departure old.taken) (length (flights_in old.flights)) legs added.faultless)).joined;
      });
      distinct = distinct_after plan all i legs (has_departure old.taken) (length (flights_in old.flights)) inside is flown.taken added.faultless flown.distinct;
    }

-- an itinerary's fault, or those of the later ones
pub fault_more : (plan : Plan) (all : List (List Leg)) (i : ℕ) (legs : List Leg) (old : Flown) (o : Option FlightFault)
    → i < length all → legs ≡ get_or all i legs → IsFlown plan (take i all) old
    → fault_of plan (has_departure old.taken) (length (flights_in old.flights)) legs ≡ o
    → fault_after plan (take i all) (drop i all) ≡ option_or o (fault_after plan (take (i + 1) all) (drop (i + 1) all))
fault_more plan all i legs old o inside is flown e =
    let front : take (i + 1) all ≡ take i all ++ legs ∷ [] = take_more all i legs inside ∙ ap (λ y. take i all ++ y ∷ []) (sym is) in
    let same : has_departure old.taken ≡ is_taken plan (take i all) = λ j d. flown.taken d j in
    let here : fault_of plan (is_taken plan (take i all)) (length (flat_map (flights_of plan) (take i all))) legs ≡ o =
    ap (λ (fs : List Flight). fault_of plan (is_taken plan (take i all)) (length fs) legs) (sym flown.flights)
    ∙ ap (λ (t : Departure → Bool). fault_of plan t (length (flights_in old.flights)) legs) (sym same) ∙ e in
    ap (fault_after plan (take i all)) (drop_step all i legs inside is)
    ∙ ap (λ x. option_or x (fault_after plan (take i all ++ legs ∷ []) (drop (i + 1) all))) here
    ∙ ap (λ earlier. option_or o (fault_after plan earlier (drop (i + 1) all))) (sym front)

-- ---- the start and the end

pub flown_none : (plan : Plan) (flown : Flown) → flights_in flown.flights ≡ [] → IsTable flown.flights
    → flown.taken.keys ≡ [] → IsFlown plan [] flown
flown_none plan flown flights table taken = record {
  flights = flights;
  table = table;
  taken = λ d. ap (list_any (same_departure d)) taken;
  few = subst (λ (fs : List Flight). length fs ≤ plan.most) (sym flights) (omega arith);
  short = subst (λ (fs : List Flight). All (λ f. length f.legs ≤ 8) fs) (sym flights) (All-nil (λ f. length f.legs ≤ 8));
  joined = subst (λ (fs : List Flight). AreJoined fs) (sym flights) (record { joined = All-nil (λ f. IsTrue (joins_up f.legs)) });
  distinct = IsDistinct-from_apart same_departure [] (λ i j d below inside. absurd (omega arith));
}

pub flights_all : (plan : Plan) (all : List (List Leg)) (i : ℕ) (flown : Flown) → length all ≤ i
    → IsFlown plan (take i all) flown → flights_in flown.flights ≡ dated_flights plan all
unfolding dated_flights
flights_all plan all i flown past is = is.flights ∙ ap (flat_map (flights_of plan)) (take_all i all past)

pub few_all : (plan : Plan) (earlier : List (List Leg)) (flown : Flown) → plan.most ≤ 100000
    → IsFlown plan earlier flown → AreFew (flights_in flown.flights)
few_all plan earlier flown most is = let few = is.few in record { flights = omega arith; legs = is.short }

pub distinct_all : (plan : Plan) (all : List (List Leg)) (i : ℕ) (flown : Flown) → length all ≤ i
    → IsFlown plan (take i all) flown → IsDistinct same_departure (all_departures plan all)
distinct_all plan all i flown past is = subst (λ (l : List (List Leg)). IsDistinct same_departure (all_departures plan l)) (take_all i all past) is.distinct

-- the legs of each itinerary are among all legs
pub itineraries_right : (P : Leg → Type 0) (legs : List Leg) → All P legs → All (All P) (itineraries legs)
unfolding itineraries
itineraries_right P legs all =
    All-map (All P) (legs_of legs) (names_after [] legs)
    (λ k d h. All-filter (λ leg. same_name (get_or (names_after [] legs) k d) (name_of leg)) P legs all)

-- a refusal of the next itinerary is the first fault
pub refusal_first : (plan : Plan) (all : List (List Leg)) (i : ℕ) (legs : List Leg) (old : Flown) (fault : FlightFault)
    → i < length all → legs ≡ get_or all i legs → IsFlown plan (take i all) old
    → first_fault plan all ≡ fault_after plan (take i all) (drop i all)
    → IsRefusal fault (fault_of plan (has_departure old.taken) (length (flights_in old.flights)) legs)
    → IsRefusal fault (first_fault plan all)
refusal_first plan all i legs old fault inside is flown start refusal =
    ⊎_elim (λ m. inl m) (λ e. inr (start ∙ fault_more plan all i legs old (Some fault) inside is flown e)) refusal

pub same_refusal : (plan plan2 : Plan) (all all2 : List (List Leg)) (fault : FlightFault) → plan ≡ plan2 → all ≡ all2
    → IsRefusal fault (first_fault plan all) → IsRefusal fault (first_fault plan2 all2)
same_refusal plan plan2 all all2 fault e f h =
    subst (λ (o : Option FlightFault). IsRefusal fault o) (ap (λ (p : Plan). first_fault p all) e ∙ ap (first_fault plan2) f) h

-- the element of a walk, by another name
pub named : {A : Type 0} (xs : List A) (i : ℕ) (x y : A) → y ≡ x → x ≡ get_or xs i x → y ≡ get_or xs i y
named xs i x y e is = e ∙ is ∙ ap (get_or xs i) (sym e)

pub end_small : (to : Option ℕ) (last : ℕ) → unwrap_or to 0 ≤ 47481 → last ≤ 47846 → unwrap_or to last ≤ 47846
end_small None last high small = small
end_small (Some to) last high small = omega arith
