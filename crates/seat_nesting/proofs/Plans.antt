-- Grids that are laid out flight by flight.
use Rattle.std.proofs.Common.{◌≡◌, ℕ, ◌+◌, ◌<◌, Option, List, [], ◌∷◌, ◌++◌, length, drop, map, refl, ap, sym, subst, ◌∙◌, arith}
use Rattle.std.specs.Prelude.{OnOk, OnErr, Result, Ok, Err}
use Rattle.std.proofs.lemmas.List.{append-nil, append_assoc, length-append, map-append}
use Rattle.seat_nesting.specs.declared.counted_flights.LegPart.{LegPart}
use Rattle.seat_nesting.specs.declared.counted_flights.FlightPart.{FlightPart}
use Rattle.seat_nesting.specs.declared.laid_out.Layout.{Layout}
use Rattle.seat_nesting.specs.Nesting.{Steps, Ladders}
use Rattle.seat_nesting.specs.FlatCounts.{LegsFollow, FlightsFollow, AreFor, Grows, AddsLegs, HasSameLegs, IsLaid, all_legs, leg_steps, grid_in}
use Rattle.seat_nesting.specs.Planning.{Planned, IsPlanned, planned, no_plan, with_ladder, with_leg, with_flight}
use Rattle.seat_nesting.proofs.Parts.{follow_push}
use Rattle.seat_nesting.proofs.Layouts.{all_push, are_more, chunks, grows_none, grows_one, steps_are}

abbrev pub plan_of : List Steps → Ladders → List Steps → Planned
plan_of ladders flights legs = record { ladders = ladders; flights = flights; legs = legs }

-- a plan is what its layout says
pub planned_is : (layout : Layout) (first : ℕ) (plan : Planned) → IsPlanned layout first plan → planned layout first ≡ plan
planned_is layout first plan is =
    let xs : List Steps = map (leg_steps layout.shared.items) layout.legs.items in
    let cut = chunks xs 0 layout.flights.items first plan.flights plan.legs is.flights_follow is.sizes
    (steps_are layout.shared.items layout.legs.items (all_legs plan.flights ++ plan.legs) is.legs_are) in
    ap (λ (s : List Steps). plan_of s (grid_in layout) (drop first xs)) is.ladders_are
    ∙ ap (λ (g : Ladders). plan_of plan.ladders g (drop first xs)) cut.parts
    ∙ ap (plan_of plan.ladders plan.flights) cut.behind

pub planned_so : (layout : Layout) (first : ℕ) (plan : Planned) → IsPlanned layout first plan
    → IsPlanned layout first (planned layout first)
planned_so layout first plan is = subst (λ (p : Planned). IsPlanned layout first p) (sym (planned_is layout first plan is)) is

pub no_flights : (layout : Layout) → layout.shared.items ≡ [] → layout.legs.items ≡ [] → layout.flights.items ≡ []
    → layout.numbers ≡ 0 → IsPlanned layout 0 no_plan
no_flights layout shared legs flights numbers = record {
  ladders_are = shared;
  legs_are = subst (λ (l : List LegPart). AreFor layout.shared.items l []) (sym legs) tt;
  legs_follow = subst (λ (l : List LegPart). LegsFollow l layout.numbers) (sym legs) (sym numbers);
  flights_follow = subst (λ (f : List FlightPart). FlightsFollow f 0) (sym flights) refl;
  sizes = ap (λ (f : List FlightPart). map (λ (x : FlightPart). x.legs) f) flights;
  next_legs = sym (ap length legs);
}

-- more ladders
pub more_ladders : (old new : Layout) (first : ℕ) (plan : Planned) → IsPlanned old first plan
    → Grows old.shared.items new.shared.items → HasSameLegs old new → new.flights.items ≡ old.flights.items
    → IsPlanned new first (plan_of new.shared.items plan.flights plan.legs)
more_ladders old new first plan is grows same flights = record {
  ladders_are = refl;
  legs_are = subst (λ (l : List LegPart). AreFor new.shared.items l (all_legs plan.flights ++ plan.legs)) (sym same.legs)
      (are_more old.shared.items new.shared.items old.legs.items (all_legs plan.flights ++ plan.legs) grows is.legs_are);
  legs_follow = subst (λ (l : List LegPart). LegsFollow l new.numbers) (sym same.legs) (subst (λ (n : ℕ). LegsFollow old.legs.items n) (sym same.numbers) is.legs_follow);
  flights_follow = subst (λ (f : List FlightPart). FlightsFollow f first) (sym flights) is.flights_follow;
  sizes = ap (map (λ (f : FlightPart). f.legs)) flights ∙ is.sizes;
  next_legs = is.next_legs ∙ sym (ap length same.legs);
}

pub one_ladder : (old new : Layout) (first : ℕ) (plan : Planned) (ladder : Steps) → IsPlanned old first plan
    → new.shared.items ≡ old.shared.items ++ ladder ∷ [] → HasSameLegs old new
    → new.flights.items ≡ old.flights.items → IsPlanned new first (with_ladder plan ladder)
one_ladder old new first plan ladder is shared same flights =
    let grows : Grows old.shared.items new.shared.items = subst (λ (s : List Steps). Grows old.shared.items s) (sym shared) (grows_one old.shared.items ladder) in
    let ladders : new.shared.items ≡ plan.ladders ++ ladder ∷ [] = shared ∙ ap (λ (s : List Steps). s ++ ladder ∷ []) is.ladders_are in
    subst (λ (s : List Steps). IsPlanned new first (plan_of s plan.flights plan.legs)) ladders (more_ladders old new first plan is grows same flights)

-- the same again
pub no_more : (old new : Layout) (first : ℕ) (plan : Planned) → IsPlanned old first plan
    → new.shared.items ≡ old.shared.items → HasSameLegs old new → new.flights.items ≡ old.flights.items
    → IsPlanned new first plan
no_more old new first plan is shared same flights =
    let grows : Grows old.shared.items new.shared.items = subst (λ (s : List Steps). Grows old.shared.items s) (sym shared) (grows_none old.shared.items) in
    subst (λ (s : List Steps). IsPlanned new first (plan_of s plan.flights plan.legs)) (shared ∙ is.ladders_are) (more_ladders old new first plan is grows same flights)

-- one leg more of the next flight
pub one_leg : (old new : Layout) (first : ℕ) (plan : Planned) (steps : Steps) → IsPlanned old first plan
    → AddsLegs old new (steps ∷ []) → new.shared.items ≡ old.shared.items → new.flights.items ≡ old.flights.items
    → IsPlanned new first (with_leg plan steps)
one_leg old new first plan steps is adds shared flights = record {
  ladders_are = shared ∙ is.ladders_are;
  legs_are = subst (λ (d : List Steps). AreFor new.shared.items new.legs.items d) (append_assoc (all_legs plan.flights) plan.legs (steps ∷ []))
      (adds.legs_are (all_legs plan.flights ++ plan.legs) is.legs_are);
  legs_follow = adds.legs_follow is.legs_follow;
  flights_follow = subst (λ (f : List FlightPart). FlightsFollow f first) (sym flights) is.flights_follow;
  sizes = ap (map (λ (f : FlightPart). f.legs)) flights ∙ is.sizes;
  next_legs = omega (arith, is.next_legs, adds.count, length-append plan.legs (steps ∷ []));
}

-- the next flight is closed
pub one_flight : (old new : Layout) (first end count : ℕ) (plan : Planned) → IsPlanned old first plan
    → end ≡ length old.legs.items → first + count ≡ end
    → new.flights.items ≡ old.flights.items ++ (record { first = first; legs = count }) ∷ []
    → new.shared.items ≡ old.shared.items → HasSameLegs old new → IsPlanned new end (with_flight plan)
one_flight old new first end count plan is end_is ends flights shared same = record {
  ladders_are = shared ∙ is.ladders_are;
  legs_are = subst (λ (d : List Steps). AreFor new.shared.items new.legs.items d) (sym (append-nil (all_legs (plan.flights ++ plan.legs ∷ [])) ∙ all_push plan.flights plan.legs))
      (subst (λ (s : List Steps). AreFor s new.legs.items (all_legs plan.flights ++ plan.legs)) (sym shared)
      (subst (λ (l : List LegPart). AreFor old.shared.items l (all_legs plan.flights ++ plan.legs)) (sym same.legs) is.legs_are));
  legs_follow = subst (λ (l : List LegPart). LegsFollow l new.numbers) (sym same.legs) (subst (λ (n : ℕ). LegsFollow old.legs.items n) (sym same.numbers) is.legs_follow);
  flights_follow = subst (λ (f : List FlightPart). FlightsFollow f end) (sym flights)
      (subst (λ (n : ℕ). FlightsFollow (old.flights.items ++ flight ∷ []) n) ends
      (follow_push (λ (f : FlightPart). f.first) (λ (f : FlightPart). f.legs) 0 old.flights.items first flight is.flights_follow refl));
  sizes =
      ap (map (λ (f : FlightPart). f.legs)) flights
      ∙ map-append (λ (f : FlightPart). f.legs) old.flights.items (flight ∷ [])
      ∙ ap (λ (s : List ℕ). s ++ count ∷ []) is.sizes
      ∙ ap (λ (n : ℕ). map (λ (l : List Steps). length l) plan.flights ++ n ∷ []) counted
      ∙ sym (map-append (λ (l : List Steps). length l) plan.flights (plan.legs ∷ []));
  next_legs = omega (arith, end_is, ap length same.legs);
}
  where
    flight : FlightPart
    flight = record { first = first; legs = count }

    counted : count ≡ length plan.legs
    counted = omega (arith, is.next_legs, end_is, ends)

-- all flights are closed
pub plan_laid : (layout : Layout) (first : ℕ) (plan : Planned) → IsPlanned layout first plan → plan.legs ≡ []
    → IsLaid layout plan.flights
plan_laid layout first plan is none = record {
  legs_are = subst (λ (d : List Steps). AreFor layout.shared.items layout.legs.items d) (ap (λ (l : List Steps). all_legs plan.flights ++ l) none ∙ append-nil (all_legs plan.flights)) is.legs_are;
  legs_follow = is.legs_follow;
  flights_follow = subst (λ (n : ℕ). FlightsFollow layout.flights.items n) (omega (arith, is.next_legs, ap length none)) is.flights_follow;
  sizes = is.sizes;
}

-- ---- what a call on a plan leaves

pub put_kept : {T E : Type 0} (r : Result T E) (old new : Layout) (first : ℕ) (plan : Planned) (ladder : Steps)
    → IsPlanned old first plan → OnOk r (new.shared.items ≡ old.shared.items ++ ladder ∷ [])
    → OnErr r (new.shared.items ≡ old.shared.items) → HasSameLegs old new → new.flights.items ≡ old.flights.items
    → IsPlanned new first (planned new first)
put_kept (Ok x) old new first plan ladder is more same legs flights = planned_so new first (with_ladder plan ladder) (one_ladder old new first plan ladder is more legs flights)
put_kept (Err e) old new first plan ladder is more same legs flights = planned_so new first plan (no_more old new first plan is same legs flights)

pub put_told : {T E : Type 0} (r : Result T E) (old new : Layout) (first : ℕ) (plan : Planned) (ladder : Steps)
    → IsPlanned old first plan → OnOk r (new.shared.items ≡ old.shared.items ++ ladder ∷ [])
    → HasSameLegs old new → new.flights.items ≡ old.flights.items
    → OnOk r (planned new first ≡ with_ladder plan ladder)
put_told (Ok x) old new first plan ladder is more legs flights = planned_is new first (with_ladder plan ladder) (one_ladder old new first plan ladder is more legs flights)
put_told (Err e) old new first plan ladder is more legs flights = tt

pub leg_kept : {T E : Type 0} (r : Result T E) (old new : Layout) (first : ℕ) (plan : Planned) (steps : Steps)
    → IsPlanned old first plan → OnOk r (AddsLegs old new (steps ∷ [])) → OnErr r (HasSameLegs old new)
    → new.shared.items ≡ old.shared.items → new.flights.items ≡ old.flights.items
    → IsPlanned new first (planned new first)
leg_kept (Ok x) old new first plan steps is adds same shared flights = planned_so new first (with_leg plan steps) (one_leg old new first plan steps is adds shared flights)
leg_kept (Err e) old new first plan steps is adds same shared flights = planned_so new first plan (no_more old new first plan is shared same flights)

pub leg_told : {T E : Type 0} (r : Result T E) (old new : Layout) (first : ℕ) (plan : Planned) (steps : Steps)
    → IsPlanned old first plan → OnOk r (AddsLegs old new (steps ∷ []))
    → new.shared.items ≡ old.shared.items → new.flights.items ≡ old.flights.items
    → OnOk r (planned new first ≡ with_leg plan steps)
leg_told (Ok x) old new first plan steps is adds shared flights = planned_is new first (with_leg plan steps) (one_leg old new first plan steps is adds shared flights)
leg_told (Err e) old new first plan steps is adds shared flights = tt
