-- The ladders of the lifted grid, leg by leg.
use Rattle.std.proofs.Common.{◌≡◌, ℕ, zero, suc, ◌+◌, ◌<◌, ◌≤◌, List, [], ◌∷◌, length, get_or, Option, Some, None, inl, inr, arith, refl, ap, sym, subst, ◌∙◌}
use Rattle.std.specs.Option.{option_map, unwrap_or}
use Rattle.std.specs.Prelude.{◌⊎◌, slice_get}
use Rattle.std.proofs.lemmas.Option.{slice_get_cases, slice_get_past, slice_get_within}
use Rattle.std.proofs.lemmas.Bool.{cases_lt}
use Rattle.ssim_flights.specs.declared.flight.DatedLeg.{DatedLeg}
use Rattle.ssim_flights.specs.declared.flight.Flight.{Flight as Flown}
use Rattle.seat_nesting.specs.Nesting.{IsLegLadder, Ladders, Steps, ladder_at, legs_of, steps_at}
use Rattle.limit_changes.specs.Laws.{AreLadders}
use Rattle.limit_changes.specs.Legs.{each_from}
use Rattle.carry_limits.specs.ByFlight.{Lists}
use Rattle.carry_limits.specs.Legs.{HasLegsOf, ladders_by, leg_ladders, run_in, run_of}
use Rattle.carry_limits.specs.Lifting.{FileNests, LegsNest, lifted_limits, lifted_on}
use Rattle.carry_limits.specs.declared.wanting.Seasons.{Seasons}
use Rattle.carry_limits.proofs.Lifted.{none_lifted}
use Rattle.carry_limits.proofs.Standing.{leg_ladder_none}

-- ---- an item by its number

single_get : {A B : Type 0} (g : ℕ → A → B) (n i : ℕ) (xs : List A)
    → slice_get (each_from (λ k y. g k y ∷ []) n xs) i ≡ option_map (g (n + i)) (slice_get xs i)
single_get g n i [] = refl
single_get g n zero (x ∷ xs) = let same : n ≡ n + 0 = omega arith in ap (λ (k : ℕ). Some (g k x)) same
single_get g n (suc i) (x ∷ xs) =
    let next : n + 1 + i ≡ n + suc i = omega arith in
    single_get g (n + 1) i xs ∙ ap (λ (k : ℕ). option_map (g k) (slice_get xs i)) next

-- ---- a ladder by the numbers of its flight and its leg

pub ladder_past : (grid : Ladders) (flight leg : ℕ) → length (legs_of grid flight) ≤ leg → ladder_at grid flight leg ≡ []
ladder_past grid flight leg past = ap (λ (o : Option Steps). unwrap_or o []) (slice_get_past (legs_of grid flight) leg past)

pub ladder_rule : (rule : ℕ → ℕ → Steps) (flights : List Flown) (flight leg : ℕ)
    → ladder_at (ladders_by rule flights) flight leg ≡ unwrap_or (option_map (λ (x : DatedLeg). rule flight leg) (slice_get (run_of flights flight) leg)) []
ladder_rule rule flights flight leg =
    ap (λ (o : Option (List Steps)). steps_at (unwrap_or o []) leg) (single_get (λ n (x : Flown). leg_ladders (rule n) x.legs) 0 flight flights)
    ∙ by (slice_get flights flight)
  where
    here : 0 + flight ≡ flight
    here = omega arith

    there : 0 + leg ≡ leg
    there = omega arith

    by : (o : Option Flown) → steps_at (unwrap_or (option_map (λ (x : Flown). leg_ladders (rule (0 + flight)) x.legs) o) []) leg
        ≡ unwrap_or (option_map (λ (x : DatedLeg). rule flight leg) (slice_get (run_in o) leg)) []
    by None = refl
    by (Some x) =
        ap (λ (o : Option Steps). unwrap_or o []) (single_get (λ n (y : DatedLeg). rule (0 + flight) n) 0 leg x.legs)
        ∙ ap (λ (n : ℕ). unwrap_or (option_map (λ (y : DatedLeg). rule n (0 + leg)) (slice_get x.legs leg)) []) here
        ∙ ap (λ (n : ℕ). unwrap_or (option_map (λ (y : DatedLeg). rule flight n) (slice_get x.legs leg)) []) there

-- a leg is there, with what runs, or the file has no limits of it
pub record IsThere (flights : List Flown) (flight leg : ℕ) : Type 0 where
  pub flown : Flown
  pub run : DatedLeg
  pub flight_at : slice_get flights flight ≡ Some flown
  pub leg_at : slice_get flown.legs leg ≡ Some run

pub there_or_none : (grid : Ladders) (flights : List Flown) → HasLegsOf grid flights → (flight leg : ℕ)
    → IsThere flights flight leg ⊎ (ladder_at grid flight leg ≡ [])
there_or_none grid flights has flight leg = by (slice_get_cases (run_of flights flight) leg).1 where
  found : (o : Option Flown) (run : DatedLeg) → slice_get flights flight ≡ o → slice_get (run_in o) leg ≡ Some run → IsThere flights flight leg
  found None run e at = absurd cc
  found (Some x) run e at = record { flown = x; run = run; flight_at = e; leg_at = at }

  by : ((x : DatedLeg) × (leg < length (run_of flights flight)) × (slice_get (run_of flights flight) leg ≡ Some x) × (get_or (run_of flights flight) leg x ≡ x))
      ⊎ ((length (run_of flights flight) ≤ leg) × (slice_get (run_of flights flight) leg ≡ None)) → IsThere flights flight leg ⊎ (ladder_at grid flight leg ≡ [])
  by (inl h) = inl (found (slice_get flights flight) h.0 refl h.2)
  by (inr h) = inr (ladder_past grid flight leg (omega (arith, h.0, has.each flight)))

-- ---- the lifted limits

pub lifted_at : (s : Seasons) (lists : Lists) → HasLegsOf s.file.now s.flights.now → (flight leg : ℕ)
    → ladder_at (lifted_limits s lists) flight leg ≡ lifted_on s lists flight leg
lifted_at s lists has flight leg =
    ladder_rule (lifted_on s lists) s.flights.now flight leg ∙ by (slice_get_cases (run_of s.flights.now flight) leg).1
  where
    by : ((x : DatedLeg) × (leg < length (run_of s.flights.now flight)) × (slice_get (run_of s.flights.now flight) leg ≡ Some x) × (get_or (run_of s.flights.now flight) leg x ≡ x))
        ⊎ ((length (run_of s.flights.now flight) ≤ leg) × (slice_get (run_of s.flights.now flight) leg ≡ None))
        → unwrap_or (option_map (λ (x : DatedLeg). lifted_on s lists flight leg) (slice_get (run_of s.flights.now flight) leg)) [] ≡ lifted_on s lists flight leg
    by (inl h) = ap (λ (o : Option DatedLeg). unwrap_or (option_map (λ (x : DatedLeg). lifted_on s lists flight leg) o) []) h.2
    by (inr h) =
        ap (λ (o : Option DatedLeg). unwrap_or (option_map (λ (x : DatedLeg). lifted_on s lists flight leg) o) []) h.1
        ∙ none_lifted s lists flight leg (ladder_past s.file.now flight leg (omega (arith, h.0, has.each flight)))

-- ---- the file's

-- of the flights so far each leg has a ladder or none
pub record FlightsNest (grid : Ladders) (flights : List Flown) (count : ℕ) : Type 0 where
  pub nests : (flight leg : ℕ) → flight < count → leg < length (run_of flights flight) → IsLegLadder (ladder_at grid flight leg)

pub legs_none : (grid : Ladders) (flight : ℕ) → LegsNest grid flight 0
legs_none grid flight = record { nests = λ leg inside. absurd (omega (arith, inside)) }

pub legs_more : (grid : Ladders) (flight count next : ℕ) → LegsNest grid flight count → IsLegLadder (ladder_at grid flight count)
    → next ≡ count + 1 → LegsNest grid flight next
legs_more grid flight count next so_far here is = record { nests = λ leg inside. by leg inside (cases_lt leg count) } where
  by : (leg : ℕ) → leg < next → (leg < count) ⊎ (count ≤ leg) → IsLegLadder (ladder_at grid flight leg)
  by leg inside (inl lt) = so_far.nests leg lt
  by leg inside (inr le) =
      let same : count ≡ leg = omega (arith, inside, is, le) in subst (λ (n : ℕ). IsLegLadder (ladder_at grid flight n)) same here

pub flights_none : (grid : Ladders) (flights : List Flown) → FlightsNest grid flights 0
flights_none grid flights = record { nests = λ flight leg inside there. absurd (omega (arith, inside)) }

pub flights_more : (grid : Ladders) (flights : List Flown) (count : ℕ) (flown : Flown) (run : List DatedLeg) → FlightsNest grid flights count
    → slice_get flights count ≡ Some flown → run ≡ flown.legs → LegsNest grid count (length run) → FlightsNest grid flights (count + 1)
flights_more grid flights count flown run so_far at is here =
    record { nests = λ flight leg inside there. by flight leg inside there (cases_lt flight count) }
  where
    mine : run_of flights count ≡ run
    mine = ap run_in at ∙ sym is

    by : (flight leg : ℕ) → flight < count + 1 → leg < length (run_of flights flight) → (flight < count) ⊎ (count ≤ flight)
        → IsLegLadder (ladder_at grid flight leg)
    by flight leg inside there (inl lt) = so_far.nests flight leg lt there
    by flight leg inside there (inr le) =
        let same : flight ≡ count = omega (arith, inside, le) in
        let long : length (run_of flights flight) ≡ length run = ap (λ (n : ℕ). length (run_of flights n)) same ∙ ap length mine in
        subst (λ (n : ℕ). IsLegLadder (ladder_at grid n leg)) (sym same) (here.nests leg (omega (arith, there, long)))

pub file_nests : (s : Seasons) (count i : ℕ) → FlightsNest s.file.now s.flights.now i → count ≡ length s.flights.now → count ≤ i → FileNests s
file_nests s count i so_far counted over = record { nests = λ has flight leg. by flight leg (there_or_none s.file.now s.flights.now has flight leg) } where
  by : (flight leg : ℕ) → IsThere s.flights.now flight leg ⊎ (ladder_at s.file.now flight leg ≡ []) → IsLegLadder (ladder_at s.file.now flight leg)
  by flight leg (inr none) = leg_ladder_none (ladder_at s.file.now flight leg) none
  by flight leg (inl is) =
      let inside : flight < length s.flights.now = slice_get_within s.flights.now flight is.flown is.flight_at in
      let within : leg < length is.flown.legs = slice_get_within is.flown.legs leg is.run is.leg_at in
      let mine : length (run_of s.flights.now flight) ≡ length is.flown.legs = ap (λ (o : Option Flown). length (run_in o)) is.flight_at in
      so_far.nests flight leg (omega (arith, inside, counted, over)) (omega (arith, within, mine))
