-- The first place on a flight, and where there is none.
use Rattle.std.proofs.Common.{◌≡◌, ℕ, ◌+◌, ◌<◌, ◌&&◌, ◌||◌, ◌==◌, nat_eq, Bool, true, false, cond, List, [], ◌∷◌, ◌++◌, length, Option, Some, None, refl, sym, ap, subst, ◌∙◌}
use Rattle.ssim_flights.proofs.Common.{Flight}
use Rattle.std.specs.Option.{option_eq, option_or}
use Rattle.std.specs.Map.{lookup}
use Rattle.std.specs.Cmp.Lexicographic.{pointwise}
use Rattle.std.specs.Prelude.{slice_get}
use Rattle.std.proofs.lemmas.Bool.{true≢false}
use Rattle.std.proofs.lemmas.Option.{slice_get_within}
use Rattle.airline_base.specs.declared.place.Place.{Place}
use Rattle.ssim_flights.specs.declared.flight.DatedLeg.{DatedLeg}
use Rattle.ssim_flights.specs.declared.flight.Wanted.{Wanted}
use Rattle.ssim_flights.specs.Flown.{same_departure}
use Rattle.ssim_flights.specs.Places.{same_wanted, wish, ends_from, places_from}
use Rattle.ssim_flights.specs.Slots.{departs, has_leg_at, has_name, leaving, leaving_for, place_of, place_on}
use Rattle.ssim_flights.proofs.Departing.{or_parts}

or_cond : {A : Type 0} (b : Bool) (x : A) (o p : Option A)
    → option_or (cond b (Some x) o) p ≡ cond b (Some x) (option_or o p)
or_cond true x o p = refl
or_cond false x o p = refl

pub lookup_append : {K X : Type 0} (test : K → Bool) (xs ys : List (K × X))
    → lookup test (xs ++ ys) ≡ option_or (lookup test xs) (lookup test ys)
lookup_append test [] ys = refl
lookup_append test (e ∷ xs) ys = ap (λ o. cond (test e.0) (Some e.1) o) (lookup_append test xs ys) ∙ sym (or_cond (test e.0) e.1 (lookup test xs) (lookup test ys))

-- ---- a flight without a leg of that departure

apart : (a n s d r : Bool) → (n && (s && d)) ≡ false → (a && (n && (s && (d && r)))) ≡ false
apart false n s d r e = refl
apart true false s d r e = refl
apart true true false d r e = refl
apart true true true false r e = refl
apart true true true true r e = absurd (true≢false e)

not_wanted : (flight : Flight) (first last : DatedLeg) (w : Wanted)
    → same_departure (leaving flight first) (leaving_for w) ≡ false → same_wanted (wish flight first last) w ≡ false
not_wanted flight first last w e =
    apart (pointwise nat_eq flight.airline w.airline) (flight.number == w.number) (option_eq nat_eq flight.suffix w.suffix)
    (first.day == w.day) (pointwise nat_eq first.board w.board && pointwise nat_eq last.off w.off) e

ends_none : (flight : Flight) (n from : ℕ) (first : DatedLeg) (to : ℕ) (legs : List DatedLeg) (w : Wanted)
    → ((last : DatedLeg) → same_wanted (wish flight first last) w ≡ false)
    → lookup (λ k. same_wanted k w) (ends_from flight n from first to legs) ≡ None
ends_none flight n from first to [] w none = refl
ends_none flight n from first to (leg ∷ legs) w none =
    ap (λ b. cond b (Some (record { flight = n; from = from; to = to })) (lookup (λ k. same_wanted k w) (ends_from flight n from first (to + 1) legs))) (none leg)
    ∙ ends_none flight n from first (to + 1) legs w none

pub places_none : (flight : Flight) (n from : ℕ) (legs : List DatedLeg) (w : Wanted)
    → has_leg_at flight legs (leaving_for w) ≡ false
    → lookup (λ k. same_wanted k w) (places_from flight n from legs) ≡ None
places_none flight n from [] w e = refl
places_none flight n from (leg ∷ legs) w e =
    let parts = or_parts (same_departure (leaving flight leg) (leaving_for w)) (has_leg_at flight legs (leaving_for w)) e in
    lookup_append (λ k. same_wanted k w) (ends_from flight n from leg from (leg ∷ legs)) (places_from flight n (from + 1) legs)
    ∙ (ap (λ o. option_or o (lookup (λ k. same_wanted k w) (places_from flight n (from + 1) legs))) (ends_none flight n from leg from (leg ∷ legs) w (λ last. not_wanted flight leg last w parts.0))
    ∙ places_none flight n (from + 1) legs w parts.1)

elsewhere : (a n s d b o : Bool) → (d && b) ≡ false → (a && (n && (s && (d && (b && o))))) ≡ false
elsewhere false n s d b o e = refl
elsewhere true false s d b o e = refl
elsewhere true true false d b o e = refl
elsewhere true true true false b o e = refl
elsewhere true true true true false o e = refl
elsewhere true true true true true o e = absurd (true≢false e)

-- a leg that departs elsewhere or on another day
pub ends_elsewhere : (flight : Flight) (n from : ℕ) (first : DatedLeg) (to : ℕ) (legs : List DatedLeg) (w : Wanted)
    → departs first w ≡ false → None ≡ lookup (λ k. same_wanted k w) (ends_from flight n from first to legs)
ends_elsewhere flight n from first to legs w e =
    sym (ends_none flight n from first to legs w (λ last. elsewhere (pointwise nat_eq flight.airline w.airline) (flight.number == w.number)
    (option_eq nat_eq flight.suffix w.suffix) (first.day == w.day) (pointwise nat_eq first.board w.board) (pointwise nat_eq last.off w.off) e))

-- ---- the place that is found

pub from_first : (test : Wanted → Bool) (flight : Flight) (n from : ℕ) (first : DatedLeg) (rest legs : List DatedLeg)
    (p : Place) → legs ≡ first ∷ rest → Some p ≡ lookup test (ends_from flight n from first from legs)
    → Some p ≡ lookup test (places_from flight n from legs)
from_first test flight n from first rest legs p are e = subst (λ (l : List DatedLeg). Some p ≡ lookup test (ends_from flight n from first from l) → Some p ≡ lookup test (places_from flight n from l)) (sym are)
    (λ h. sym (lookup_append test (ends_from flight n from first from (first ∷ rest)) (places_from flight n (from + 1) rest)
    ∙ ap (λ o. option_or o (lookup test (places_from flight n (from + 1) rest))) (sym h))) e

pub from_rest : (test : Wanted → Bool) (flight : Flight) (n from : ℕ) (first : DatedLeg) (rest legs : List DatedLeg)
    (r : Option Place) → legs ≡ first ∷ rest → None ≡ lookup test (ends_from flight n from first from legs)
    → r ≡ lookup test (places_from flight n (from + 1) rest) → r ≡ lookup test (places_from flight n from legs)
from_rest test flight n from first rest legs r are none e = subst (λ (l : List DatedLeg). None ≡ lookup test (ends_from flight n from first from l) → r ≡ lookup test (places_from flight n from l)) (sym are)
    (λ h. e ∙ sym (lookup_append test (ends_from flight n from first from (first ∷ rest)) (places_from flight n (from + 1) rest)
    ∙ ap (λ o. option_or o (lookup test (places_from flight n (from + 1) rest))) (sym h))) none

-- ---- by the name first

no_leg : (flight : Flight) (legs : List DatedLeg) (w : Wanted) → has_name w (Some flight) ≡ false
    → has_leg_at flight legs (leaving_for w) ≡ false
no_leg flight [] w e = refl
no_leg flight (leg ∷ legs) w e = by (flight.number == w.number) (option_eq nat_eq flight.suffix w.suffix) e (no_leg flight legs w e)
  where
    by : (n s : Bool) → (n && s) ≡ false → has_leg_at flight legs (leaving_for w) ≡ false
        → ((n && (s && (leg.day == w.day))) || has_leg_at flight legs (leaving_for w)) ≡ false
    by false s e rest = rest
    by true false e rest = rest
    by true true e rest = absurd (true≢false e)

pub other_name : (flights : List Flight) (n : ℕ) (w : Wanted) → false ≡ has_name w (slice_get flights n)
    → None ≡ place_on flights n w
other_name flights n w e = by (slice_get flights n) e
  where
    by : (o : Option Flight) → false ≡ has_name w o → None ≡ place_of n w o
    by None e = refl
    by (Some flight) e = sym (places_none flight n 0 flight.legs w (no_leg flight flight.legs w (sym e)))

pub named_inside : (flights : List Flight) (n : ℕ) (w : Wanted) → true ≡ has_name w (slice_get flights n)
    → n < length flights
named_inside flights n w e = by (slice_get flights n) refl e
  where
    by : (o : Option Flight) → slice_get flights n ≡ o → true ≡ has_name w o → n < length flights
    by None at e = absurd (true≢false e)
    by (Some flight) at e = slice_get_within flights n flight at

pub known_place : (flights : List Flight) (n : ℕ) (w : Wanted) (flight : Flight) (legs : List DatedLeg) (r : Option Place)
    → slice_get flights n ≡ Some flight → legs ≡ flight.legs
    → r ≡ lookup (λ k. same_wanted k w) (places_from flight n 0 legs) → r ≡ place_on flights n w
known_place flights n w flight legs r at are e =
    e ∙ (ap (λ (ls : List DatedLeg). lookup (λ k. same_wanted k w) (places_from flight n 0 ls)) are ∙ sym (ap (place_of n w) at))
