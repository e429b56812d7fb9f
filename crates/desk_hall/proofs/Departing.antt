-- Legs that departed and have a class open, one by one.
use Rattle.std.proofs.Common.{◌≡◌, ℕ, suc, ◌+◌, ◌<◌, ◌≤◌, Bool, true, false, cond, if◌then◌else◌, List, [], ◌∷◌, ◌++◌, length, drop, get_or, refl, sym, ap, ◌∙◌, subst, arith, Some, append_assoc, append-nil}
use Rattle.std.specs.Prelude.{slice_get}
use Rattle.std.specs.List.{AllByRecursion}
use Rattle.std.proofs.Math.ListN.{drop_of_length-le}
use Rattle.std.proofs.lemmas.List.{drop_more}
use Rattle.std.proofs.lemmas.Option.{get_or_from_slice_get, slice_get_within}
use Rattle.desk_hall.specs.Departed.{closing, closings_from, closings_on, has_open, is_left_open, AreOnLegs}
use Rattle.seat_journal.specs.declared.entry.Control.{Control}
use Rattle.seat_nesting.specs.Nesting.{Ladders}
use Rattle.seat_nesting.specs.declared.ladder.Step.{Step}
use Rattle.seat_replies.specs.Changes.{IsLegOf, IsOnLeg}
use Rattle.seat_replies.proofs.Rows.{all_append, all_of}
use Rattle.ssim_flights.specs.declared.flight.DatedLeg.{DatedLeg}
use Rattle.ssim_flights.specs.declared.flight.Flight.{Flight as Flown}

-- ---- open classes

step_here : (steps : List Step) (i : ℕ) (step : Step) → i < length steps → step ≡ get_or steps i step
    → drop i steps ≡ step ∷ drop (i + 1) steps
step_here steps i step lt is = drop_more steps i step lt ∙ ap (λ (s : Step). s ∷ drop (i + 1) steps) (sym is)

pub unclosed_here : (steps : List Step) (i : ℕ) (step : Step) → i < length steps → step ≡ get_or steps i step
    → has_open (drop i steps) ≡ has_open steps → step.closed ≡ false → true ≡ has_open steps
unclosed_here steps i step lt is so_far unclosed =
    sym (sym so_far ∙ ap has_open (step_here steps i step lt is) ∙ ap (λ (t : Bool). if t then has_open (drop (i + 1) steps) else true) unclosed)

pub closed_here : (steps : List Step) (i : ℕ) (step : Step) → i < length steps → step ≡ get_or steps i step
    → has_open (drop i steps) ≡ has_open steps → step.closed ≡ true → has_open (drop (i + 1) steps) ≡ has_open steps
closed_here steps i step lt is so_far shut =
    sym (ap has_open (step_here steps i step lt is) ∙ ap (λ (t : Bool). if t then has_open (drop (i + 1) steps) else true) shut) ∙ so_far

pub none_open : (steps : List Step) (i : ℕ) → length steps ≤ i → has_open (drop i steps) ≡ has_open steps → false ≡ has_open steps
none_open steps i le so_far = sym (ap has_open (drop_of_length-le steps le)) ∙ so_far

-- ---- leg by leg

pub leg_put : (limits : Ladders) (today flight i : ℕ) (legs : List DatedLeg) (leg : DatedLeg) (whole all new : List Control)
    → i < length legs → leg ≡ get_or legs i leg → all ++ closings_on limits today flight i (drop i legs) ≡ whole
    → new ≡ all ++ (if is_left_open limits today flight i leg then closing flight i ∷ [] else [])
    → new ++ closings_on limits today flight (i + 1) (drop (i + 1) legs) ≡ whole
leg_put limits today flight i legs leg whole all new lt is so_far put =
    let here : List Control = (if is_left_open limits today flight i leg then closing flight i ∷ [] else []) in
    let left : List Control = closings_on limits today flight (i + 1) (drop (i + 1) legs) in
    let next : drop i legs ≡ leg ∷ drop (i + 1) legs = drop_more legs i leg lt ∙ ap (λ (l : DatedLeg). l ∷ drop (i + 1) legs) (sym is) in
    ap (λ (l : List Control). l ++ left) put ∙ append_assoc all here left
    ∙ ap (λ (l : List DatedLeg). all ++ closings_on limits today flight i l) (sym next) ∙ so_far

pub legs_put : (limits : Ladders) (today flight i : ℕ) (legs : List DatedLeg) (whole all : List Control) → length legs ≤ i
    → all ++ closings_on limits today flight i (drop i legs) ≡ whole → all ≡ whole
legs_put limits today flight i legs whole all le so_far =
    sym (append-nil all) ∙ ap (λ (l : List DatedLeg). all ++ closings_on limits today flight i l) (sym (drop_of_length-le legs le)) ∙ so_far

-- flight by flight
pub flight_put : (limits : Ladders) (today i : ℕ) (flights : List Flown) (flight : Flown) (whole all new : List Control)
    → slice_get flights i ≡ Some flight → all ++ closings_from limits today i (drop i flights) ≡ whole
    → new ≡ all ++ closings_on limits today i 0 flight.legs → new ++ closings_from limits today (i + 1) (drop (i + 1) flights) ≡ whole
flight_put limits today i flights flight whole all new at so_far put =
    let here : List Control = closings_on limits today i 0 flight.legs in
    let left : List Control = closings_from limits today (i + 1) (drop (i + 1) flights) in
    let lt : i < length flights = slice_get_within flights i flight at in
    let is : get_or flights i flight ≡ flight = get_or_from_slice_get flights i flight flight at in
    let next : drop i flights ≡ flight ∷ drop (i + 1) flights = drop_more flights i flight lt ∙ ap (λ (f : Flown). f ∷ drop (i + 1) flights) is in
    ap (λ (l : List Control). l ++ left) put ∙ append_assoc all here left
    ∙ ap (λ (l : List Flown). all ++ closings_from limits today i l) (sym next) ∙ so_far

pub flights_put : (limits : Ladders) (today i : ℕ) (flights : List Flown) (whole all : List Control) → length flights ≤ i
    → all ++ closings_from limits today i (drop i flights) ≡ whole → all ≡ whole
flights_put limits today i flights whole all le so_far =
    sym (append-nil all) ∙ ap (λ (l : List Flown). all ++ closings_from limits today i l) (sym (drop_of_length-le flights le)) ∙ so_far

-- ---- on legs of the flights

module _ (flights : List Flown) (limits : Ladders) (today : ℕ) where
  legs_on : (flight leg : ℕ) (legs : List DatedLeg) → ((i : ℕ) → i < length legs → IsLegOf flights flight (leg + i))
      → AllByRecursion (IsOnLeg flights) (closings_on limits today flight leg legs)
  legs_on flight leg [] are = tt
  legs_on flight leg (l ∷ legs) are =
      let first : leg + 0 ≡ leg = omega arith in
      all_append (IsOnLeg flights) (if is_left_open limits today flight leg l then closing flight leg ∷ [] else [])
      (closings_on limits today flight (leg + 1) legs)
      (of (is_left_open limits today flight leg l) (subst (IsLegOf flights flight) first (are 0 (omega arith))))
      (legs_on flight (leg + 1) legs (λ i lt. let e : leg + suc i ≡ leg + 1 + i = omega arith in subst (IsLegOf flights flight) e (are (suc i) (omega (arith, lt)))))
    where
      of : (t : Bool) → IsLegOf flights flight leg → AllByRecursion (IsOnLeg flights) (cond {A = List Control} t (closing flight leg ∷ []) [])
      of true is = (is, tt)
      of false is = tt

  flights_on : (n : ℕ) (fs : List Flown) → ((i : ℕ) (f : Flown) → slice_get fs i ≡ Some f → slice_get flights (n + i) ≡ Some f)
      → AllByRecursion (IsOnLeg flights) (closings_from limits today n fs)
  flights_on n [] are = tt
  flights_on n (f ∷ fs) are =
      let first : n + 0 ≡ n = omega arith in
      let at : slice_get flights n ≡ Some f = ap (slice_get flights) (sym first) ∙ are 0 f refl in
      all_append (IsOnLeg flights) (closings_on limits today n 0 f.legs) (closings_from limits today (n + 1) fs)
      (legs_on n 0 f.legs (λ i lt. let e : i ≡ 0 + i = omega arith in subst (IsLegOf flights n) e (record { flown = f; at = at; there = lt })))
      (flights_on (n + 1) fs (λ i g e. let same : n + suc i ≡ n + 1 + i = omega arith in ap (slice_get flights) (sym same) ∙ are (suc i) g e))

pub on_legs : (flights : List Flown) (limits : Ladders) (today : ℕ) (all : List Control) → all ≡ closings_from limits today 0 flights
    → AreOnLegs flights all
on_legs flights limits today all is = record {
  each = all_of (IsOnLeg flights) all (subst (AllByRecursion (IsOnLeg flights)) (sym is)
      (flights_on flights limits today 0 flights (λ i f at. let e : 0 + i ≡ i = omega arith in ap (slice_get flights) e ∙ at)));
}
