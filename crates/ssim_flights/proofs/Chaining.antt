-- The flights and the faults of one chain.
use Rattle.std.proofs.Common.{◌≡◌, ℕ, ◌+◌, ◌<◌, Bool, true, false, cond, ◌==◌, nat_lt, List, [], ◌∷◌, length, get_or, map, min, All, Option, Some, None, IfSome, refl, sym, ap, subst, ◌∙◌, arith}
use Rattle.ssim_flights.proofs.Common.{list_any, range_with_len, Leg, FlightFault, Departure, Plan, Scheduled, chain, missing_leg, repeated_leg, broken_chain, schedule, rows, shortest, is_in_horizon, day_at, flights_on, flight_on, days_fault, departures_on, departure, fault_of, leg_one_if}
use Rattle.std.specs.List.{filter_map, cons_option}
use Rattle.std.specs.Option.{option_or}
use Rattle.std.proofs.lemmas.Bool.{le-ltb}
use Rattle.std.proofs.lemmas.List.Elements.{All-nil, All-cons, All-filter, All-from_get_or, All-weaker, All-head, All-tail}
use Rattle.std.proofs.lemmas.List.{length-map}
use Rattle.std.proofs.lemmas.List.FromFn.{length-range_with_len, get_or-range_with_len}
use Rattle.ssim_flights.specs.declared.fault.FlightKind.{FlightKind}
use Rattle.ssim_flights.specs.declared.fault.FlightKind.TheVariants as kinds
use Rattle.ssim_flights.specs.LegChains.{leg_at, sequences, first_record_if}
use Rattle.ssim_flights.specs.Schedules.{differing, falling_after, falling_at, falling_back, local_at, Reaches}
use Rattle.ssim_flights.specs.Flown.{found}

pub found_some : (kind : FlightKind) (o : Option ℕ) (serial : ℕ) (later : Option FlightFault) → o ≡ Some serial
    → found kind o later ≡ Some (record { serial = serial; kind = kind })
found_some kind o serial later e = ap (λ x. found kind x later) e

pub found_none : (kind : FlightKind) (o : Option ℕ) (later : Option FlightFault) → o ≡ None → found kind o later ≡ later
found_none kind o later e = ap (λ x. found kind x later) e

-- ---- rows

shortest_reach : (n i : ℕ) (legs : List Scheduled) → i < shortest n legs → (i < n) × Reaches legs i
shortest_reach n i [] h = (h, All-nil (λ leg. i < length leg.operations))
shortest_reach n i (leg ∷ legs) h =
    let rest = shortest_reach (min n (length leg.operations)) i legs h in
    (omega (arith, rest.0), All-cons (λ leg. i < length leg.operations) leg legs (omega (arith, rest.0)) rest.1)

-- each leg has an operation for each row
pub rows_reach : (plan : Plan) (legs : List Scheduled) → All (Reaches legs) (rows plan legs)
unfolding rows
rows_reach plan [] = All-nil (Reaches [])
rows_reach plan (leg ∷ legs) =
    let n = shortest (length leg.operations) legs in
    All-filter (λ i. is_in_horizon plan (day_at leg i)) (Reaches (leg ∷ legs)) (range_with_len 0 n)
    (All-from_get_or (Reaches (leg ∷ legs)) (range_with_len 0 n) 0 (λ i h.
    let l = length-range_with_len 0 n in
    let e : get_or (range_with_len 0 n) i 0 ≡ i = get_or-range_with_len 0 n i 0 (omega arith) ∙ omega arith in
    let reach = shortest_reach (length leg.operations) i legs (omega arith) in
    subst (λ (k : ℕ). Reaches (leg ∷ legs) k) (sym e) (All-cons (λ each. i < length each.operations) leg legs reach.0 reach.1)))

pub reach_first : (first : Scheduled) (rest chained : List Scheduled) (is : List ℕ) → chained ≡ first ∷ rest
    → All (Reaches chained) is → All (λ i. i < length first.operations) is
reach_first first rest chained is e all =
    All-weaker (Reaches (first ∷ rest)) (λ i. i < length first.operations) (λ i h. All-head (λ each. i < length each.operations) first rest h) is
    (subst (λ (c : List Scheduled). All (Reaches c) is) e all)

-- ---- what leg 1 gives

pub departures_are : (plan : Plan) (first : Scheduled) (rest chained : List Scheduled) (is : List ℕ)
    → chained ≡ first ∷ rest → is ≡ rows plan chained → departures_on plan chained ≡ map (departure first) is
unfolding departures_on
departures_are plan first rest chained is e r = ap (departures_on plan) e ∙ ap (map (departure first)) (sym (r ∙ ap (rows plan) e))

pub flights_are : (plan : Plan) (first : Scheduled) (rest chained : List Scheduled) (is : List ℕ)
    → chained ≡ first ∷ rest → is ≡ rows plan chained
    → flights_on plan chained ≡ map (flight_on plan first.leg chained) is
unfolding flights_on
flights_are plan first rest chained is e r =
    ap (flights_on plan) e ∙ ap (map (flight_on plan first.leg (first ∷ rest))) (sym (r ∙ ap (rows plan) e)) ∙ ap (λ c. map (flight_on plan first.leg c) is) (sym e)

-- ---- right legs

found_right : (P : Leg → Type 0) (k : ℕ) (legs : List Leg) → All P legs → IfSome (leg_at legs k) P
found_right P k [] all = tt
found_right P k (leg ∷ legs) all = by (leg.sequence == k) (All-head P leg legs all) (found_right P k legs (All-tail P leg legs all))
  where
    by : (b : Bool) → P leg → IfSome (leg_at legs k) P → IfSome (cond b (Some leg) (leg_at legs k)) P
    by true h rest = h
    by false h rest = rest

kept_right : (P : Leg → Type 0) (h : ℕ → Option Leg) → ((k : ℕ) → IfSome (h k) P) → (ks : List ℕ)
    → All P (filter_map h ks)
kept_right P h each [] = All-nil P
kept_right P h each (k ∷ ks) = by (h k) (each k) (kept_right P h each ks)
  where
    by : (o : Option Leg) → IfSome o P → All P (filter_map h ks) → All P (cons_option o (filter_map h ks))
    by None has rest = rest
    by (Some leg) has rest = All-cons P leg (filter_map h ks) has rest

-- the legs of a chain are among those of the itinerary
pub chain_right : (P : Leg → Type 0) (legs : List Leg) → All P legs → All P (chain legs)
unfolding chain
chain_right P legs all = kept_right P (leg_at legs) (λ k. found_right P k legs all) (sequences legs)

pub reach_from : (plan : Plan) (legs : List Scheduled) (is : List ℕ) → is ≡ rows plan legs → All (Reaches legs) is
reach_from plan legs is e = subst (λ (l : List ℕ). All (Reaches legs) l) (sym e) (rows_reach plan legs)

pub falling_is : (plan : Plan) (chained : List Scheduled) (is : List ℕ) → is ≡ rows plan chained
    → falling_at chained is ≡ falling_back plan chained
unfolding falling_back
falling_is plan chained is e = ap (falling_at chained) e

-- a leg alone has none ahead of it
pub none_falls : (legs : List Scheduled) (is : List ℕ) → length legs < 2 → None ≡ falling_at legs is
none_falls legs [] few = refl
none_falls legs (i ∷ is) few = none_falls legs is few ∙ ap (λ (o : Option ℕ). option_or o (falling_at legs is)) (sym (alone legs few))
  where
    alone : (legs : List Scheduled) → length legs < 2 → falling_after i 0 legs ≡ None
    alone [] few = refl
    alone (leg ∷ []) few = ap (λ (b : Bool). cond b (Some leg.leg.serial) None) (le-ltb (local_at leg i + 1) 0 (omega arith))
    alone (leg ∷ next ∷ legs) few = absurd (omega arith)

-- leg 1 is refused where one of the departures is taken
pub twice_is : (plan : Plan) (taken : Departure → Bool) (first : Scheduled) (rest chained : List Scheduled)
    (is : List ℕ) (t : Bool) → chained ≡ first ∷ rest → is ≡ rows plan chained
    → t ≡ list_any taken (map (departure first) is)
    → leg_one_if (list_any taken (departures_on plan chained)) chained ≡ cond t (Some first.leg.serial) None
twice_is plan taken first rest chained is t e r h =
    ap (λ ds. leg_one_if (list_any taken ds) chained) (departures_are plan first rest chained is e r) ∙ ap (λ b. leg_one_if b chained) (sym h) ∙ ap (leg_one_if t) e

-- and where there are too many flights
pub too_many_is : (plan : Plan) (count : ℕ) (first : Scheduled) (rest chained : List Scheduled) (is : List ℕ)
    → chained ≡ first ∷ rest → is ≡ rows plan chained
    → leg_one_if (nat_lt plan.most (count + length (flights_on plan chained))) chained
    ≡ cond (nat_lt plan.most (count + length is)) (Some first.leg.serial) None
too_many_is plan count first rest chained is e r =
    let n : length (flights_on plan chained) ≡ length is = ap length (flights_are plan first rest chained is e r) ∙ length-map is (flight_on plan first.leg chained) in
    ap (λ k. leg_one_if (nat_lt plan.most (count + k)) chained) n ∙ ap (leg_one_if (nat_lt plan.most (count + length is))) e

module _ (plan : Plan) (taken : Departure → Bool) (count : ℕ) (legs : List Leg) (chained : List Scheduled) where
  pub days_one : (s : ℕ) → differing chained ≡ Some s
      → days_fault plan taken count legs chained ≡ Some (record { serial = s; kind = kinds.LegDatesDiffer })
  unfolding days_fault
  days_one s a = found_some kinds.LegDatesDiffer _ s _ a

  pub days_two : (s : ℕ) → differing chained ≡ None → falling_back plan chained ≡ Some s
      → days_fault plan taken count legs chained ≡ Some (record { serial = s; kind = kinds.DatesFallBack })
  unfolding days_fault
  days_two s a b = found_none kinds.LegDatesDiffer _ _ a ∙ found_some kinds.DatesFallBack _ s _ b

  pub days_three : (s : ℕ) → differing chained ≡ None → falling_back plan chained ≡ None
      → leg_one_if (list_any taken (departures_on plan chained)) chained ≡ Some s
      → days_fault plan taken count legs chained ≡ Some (record { serial = s; kind = kinds.TwiceOnDate })
  unfolding days_fault
  days_three s a b c = found_none kinds.LegDatesDiffer _ _ a ∙ found_none kinds.DatesFallBack _ _ b ∙ found_some kinds.TwiceOnDate _ s _ c

  pub days_four : (s : ℕ) → differing chained ≡ None → falling_back plan chained ≡ None
      → leg_one_if (list_any taken (departures_on plan chained)) chained ≡ None
      → first_record_if (nat_lt 8 (length chained)) legs ≡ Some s
      → days_fault plan taken count legs chained ≡ Some (record { serial = s; kind = kinds.TooManyLegs })
  unfolding days_fault
  days_four s a b c d = found_none kinds.LegDatesDiffer _ _ a ∙ found_none kinds.DatesFallBack _ _ b ∙ found_none kinds.TwiceOnDate _ _ c ∙ found_some kinds.TooManyLegs _ s _ d

  pub days_five : (s : ℕ) → differing chained ≡ None → falling_back plan chained ≡ None
      → leg_one_if (list_any taken (departures_on plan chained)) chained ≡ None
      → first_record_if (nat_lt 8 (length chained)) legs ≡ None
      → leg_one_if (nat_lt plan.most (count + length (flights_on plan chained))) chained ≡ Some s
      → days_fault plan taken count legs chained ≡ Some (record { serial = s; kind = kinds.TooManyFlights })
  unfolding days_fault
  days_five s a b c d e = found_none kinds.LegDatesDiffer _ _ a ∙ found_none kinds.DatesFallBack _ _ b ∙ found_none kinds.TwiceOnDate _ _ c ∙ found_none kinds.TooManyLegs _ _ d ∙ found_some kinds.TooManyFlights _ s _ e

  pub days_none : differing chained ≡ None → falling_back plan chained ≡ None
      → leg_one_if (list_any taken (departures_on plan chained)) chained ≡ None
      → first_record_if (nat_lt 8 (length chained)) legs ≡ None
      → leg_one_if (nat_lt plan.most (count + length (flights_on plan chained))) chained ≡ None
      → days_fault plan taken count legs chained ≡ None
  unfolding days_fault
  days_none a b c d e = found_none kinds.LegDatesDiffer _ _ a ∙ found_none kinds.DatesFallBack _ _ b ∙ found_none kinds.TwiceOnDate _ _ c ∙ found_none kinds.TooManyLegs _ _ d ∙ found_none kinds.TooManyFlights _ _ e

-- ---- an itinerary

module _ (plan : Plan) (taken : Departure → Bool) (count : ℕ) (legs : List Leg) where
  pub fault_one : (s : ℕ) → missing_leg legs ≡ Some s
      → fault_of plan taken count legs ≡ Some (record { serial = s; kind = kinds.MissingLeg })
  unfolding fault_of
  fault_one s a = found_some kinds.MissingLeg _ s _ a

  pub fault_two : (s : ℕ) → missing_leg legs ≡ None → repeated_leg legs ≡ Some s
      → fault_of plan taken count legs ≡ Some (record { serial = s; kind = kinds.RepeatedLeg })
  unfolding fault_of
  fault_two s a b = found_none kinds.MissingLeg _ _ a ∙ found_some kinds.RepeatedLeg _ s _ b

  pub fault_three : (s : ℕ) → missing_leg legs ≡ None → repeated_leg legs ≡ None → broken_chain (chain legs) ≡ Some s
      → fault_of plan taken count legs ≡ Some (record { serial = s; kind = kinds.BrokenChain })
  unfolding fault_of
  fault_three s a b c = found_none kinds.MissingLeg _ _ a ∙ found_none kinds.RepeatedLeg _ _ b ∙ found_some kinds.BrokenChain _ s _ c

  pub fault_days : missing_leg legs ≡ None → repeated_leg legs ≡ None → broken_chain (chain legs) ≡ None
      → fault_of plan taken count legs ≡ days_fault plan taken count legs (schedule plan (chain legs))
  unfolding fault_of
  fault_days a b c = found_none kinds.MissingLeg _ _ a ∙ found_none kinds.RepeatedLeg _ _ b ∙ found_none kinds.BrokenChain _ _ c
