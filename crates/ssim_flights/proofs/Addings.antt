-- Adding a chain's flights, and an itinerary's.
use Rattle.std.proofs.Common.{◌≡◌, ℕ, Bool, List, [], ◌∷◌, ◌++◌, length, map, Option, Some, None, Result, Ok, Err, IfErr, OnOk, refl, sym, ap, subst, ◌∙◌, inr, append-nil, arith}
use Rattle.ssim_flights.proofs.Common.{Leg, FlightFault, Flight, Departure, Plan, Scheduled, chain, missing_leg, repeated_leg, broken_chain, days_fault, departure, departures_on, fault_of, rows, schedule, flights_on, flight_on}
use Rattle.ssim_flights.specs.declared.adding.Flown.{Flown}
use Rattle.ssim_flights.specs.Adding.{IsChainAdded, IsAdded}
use Rattle.ssim_flights.specs.Flown.{departures_of, flights_of, IsRefusal}
use Rattle.ssim_flights.specs.Taken.{has_departure, Takes}
use Rattle.ssim_flights.specs.Timetables.{flights_in, IsTable}
use Rattle.ssim_flights.proofs.Chaining.{departures_are, flights_are, fault_days}

-- the flights of the rows were added
pub added_rows : (plan : Plan) (legs : List Leg) (first : Scheduled) (rest chained : List Scheduled) (is : List ℕ)
    (old new : Flown) → chained ≡ first ∷ rest → is ≡ rows plan chained
    → days_fault plan (has_departure old.taken) (length (flights_in old.flights)) legs chained ≡ None
    → flights_in new.flights ≡ flights_in old.flights ++ map (flight_on plan first.leg chained) is
    → IsTable new.flights → Takes old.taken new.taken (map (departure first) is) → IsChainAdded plan legs chained old new
added_rows plan legs first rest chained is old new e r none flights table taken = record {
  faultless = none;
  flights = flights ∙ ap (λ (fs : List Flight). flights_in old.flights ++ fs) (sym (flights_are plan first rest chained is e r));
  table = table;
  taken = subst (λ (ds : List Departure). Takes old.taken new.taken ds) (sym (departures_are plan first rest chained is e r)) taken;
}

-- a chain of no legs
pub added_none : (plan : Plan) (legs : List Leg) (chained : List Scheduled) (flown : Flown) → chained ≡ []
    → days_fault plan (has_departure flown.taken) (length (flights_in flown.flights)) legs chained ≡ None
    → IsTable flown.flights → IsChainAdded plan legs chained flown flown
unfolding flights_on departures_on
added_none plan legs chained flown e none table = record {
  faultless = none;
  flights = sym (append-nil (flights_in flown.flights)) ∙ ap (λ (c : List Scheduled). flights_in flown.flights ++ flights_on plan c) (sym e);
  table = table;
  taken = subst (λ (c : List Scheduled). Takes flown.taken flown.taken (departures_on plan c)) (sym e) (record { at = λ d. refl });
}

-- a chain's flights are its itinerary's
pub added_chain : (plan : Plan) (legs : List Leg) (chained : List Scheduled) (old new : Flown)
    → chained ≡ schedule plan (chain legs) → missing_leg legs ≡ None → repeated_leg legs ≡ None
    → broken_chain (chain legs) ≡ None → IsChainAdded plan legs chained old new → IsAdded plan legs old new
unfolding flights_of departures_of
added_chain plan legs chained old new e a b c added = record {
  faultless = fault_days plan (has_departure old.taken) (length (flights_in old.flights)) legs a b c ∙ ap (days_fault plan (has_departure old.taken) (length (flights_in old.flights)) legs) (sym e) ∙ added.faultless;
  flights = added.flights ∙ ap (λ (l : List Scheduled). flights_in old.flights ++ flights_on plan l) e;
  table = added.table;
  taken = subst (λ (l : List Scheduled). Takes old.taken new.taken (departures_on plan l)) e added.taken;
}

pub days_are : (plan : Plan) (taken : Departure → Bool) (count : ℕ) (legs : List Leg) (chained : List Scheduled)
    → chained ≡ schedule plan (chain legs) → missing_leg legs ≡ None → repeated_leg legs ≡ None
    → broken_chain (chain legs) ≡ None → days_fault plan taken count legs chained ≡ fault_of plan taken count legs
days_are plan taken count legs chained e a b c = ap (days_fault plan taken count legs) e ∙ sym (fault_days plan taken count legs a b c)

-- ---- results

pub refusal_same : {A : Type 0} (r : Result A FlightFault) (a b : Option FlightFault) → a ≡ b
    → IfErr r (λ fault. IsRefusal fault a) → IfErr r (λ fault. IsRefusal fault b)
refusal_same r a b e h = subst (λ (o : Option FlightFault). IfErr r (λ fault. IsRefusal fault o)) e h

pub refused : (A : Type 0) (r : Result A FlightFault) (fault : FlightFault) (o : Option FlightFault) → r ≡ Err fault
    → o ≡ Some fault → IfErr r (λ f. IsRefusal f o)
refused A r fault o e h = subst (λ (x : Result A FlightFault). IfErr x (λ f. IsRefusal f o)) (sym e) (inr h)

pub empty : {A : Type 0} (xs : List A) → length xs ≡ 0 → xs ≡ []
empty [] e = refl
empty (x ∷ xs) e = absurd (omega arith)

pub on_ok : {A E : Type 0} (r : Result A E) (P Q : Type 0) → (P → Q) → OnOk r P → OnOk r Q
on_ok (Ok x) P Q f h = f h
on_ok (Err x) P Q f h = tt
