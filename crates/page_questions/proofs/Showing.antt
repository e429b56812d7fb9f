-- The legs that are shown, flight by flight, and a class in a ladder.
use Rattle.std.proofs.Common.{Bool, true, false, ◌≡◌, ◌==◌, ℕ, ◌+◌, ◌<◌, ◌≤◌, List, [], ◌∷◌, ◌++◌, length, drop, get_or, Option, Some, None, refl, sym, ap, subst, ◌∙◌, arith, append_assoc, if◌then◌else◌}
use Rattle.std.proofs.Math.ListN.{drop_of_length-le}
use Rattle.std.proofs.lemmas.List.{append-nil}
use Rattle.ssim_flights.proofs.Walks.{drop_step}
use Rattle.ssim_flights.specs.declared.flight.Flight.{Flight as Flown}
use Rattle.seat_nesting.specs.Nesting.{ByClass, Steps, held_from}
use Rattle.seat_nesting.specs.declared.ladder.Step.{Step}
use Rattle.load_pages.specs.declared.load.LegLoad.{LegLoad}
use Rattle.page_questions.specs.Shown.{if_shown, shown_from, standing}
use Rattle.page_questions.specs.declared.shown.Standing.{Standing}

-- ---- flights

pub none_added : (o : Option LegLoad) (all : List LegLoad) → o ≡ None → all ≡ all ++ if_shown o
none_added o all e = sym (append-nil all) ∙ ap (λ (p : Option LegLoad). all ++ if_shown p) (sym e)

pub one_added : (o : Option LegLoad) (load : LegLoad) (old new : List LegLoad) → o ≡ Some load → new ≡ old ++ load ∷ []
    → new ≡ old ++ if_shown o
one_added o load old new e put = put ∙ ap (λ (p : Option LegLoad). old ++ if_shown p) (sym e)

pub flight_more : (of : ℕ → Flown → Option LegLoad) (flights : List Flown) (i : ℕ) (flight : Flown) (mid new whole : List LegLoad)
    → mid ++ shown_from of i (drop i flights) ≡ whole → i < length flights → flight ≡ get_or flights i flight
    → new ≡ mid ++ if_shown (of i flight) → new ++ shown_from of (i + 1) (drop (i + 1) flights) ≡ whole
flight_more of flights i flight mid new whole so_far inside is put =
    let rest : drop i flights ≡ flight ∷ drop (i + 1) flights = drop_step flights i flight inside is in
    ap (λ (l : List LegLoad). l ++ shown_from of (i + 1) (drop (i + 1) flights)) put
    ∙ append_assoc mid (if_shown (of i flight)) (shown_from of (i + 1) (drop (i + 1) flights))
    ∙ ap (λ (l : List Flown). mid ++ shown_from of i l) (sym rest)
    ∙ so_far

pub flights_whole : (of : ℕ → Flown → Option LegLoad) (flights : List Flown) (i count : ℕ) (all whole : List LegLoad)
    → all ++ shown_from of i (drop i flights) ≡ whole → count ≡ length flights → count ≤ i → all ≡ whole
flights_whole of flights i count all whole so_far counted over =
    let past : length flights ≤ i = omega (arith, counted, over) in
    sym (append-nil all) ∙ ap (λ (l : List Flown). all ++ shown_from of i l) (sym (drop_of_length-le flights past)) ∙ so_far

-- ---- a class

by_test : (seats : ByClass) (class : ℕ) (step : Step) (lower : Steps) (b : Bool) → (step.class == class) ≡ b
    → standing seats class (step ∷ lower)
    ≡ (if b then Some (record { held = held_from seats (step ∷ lower); limit = step.limit }) else standing seats class lower)
by_test seats class step lower b e =
    ap (λ (t : Bool). if t then Some (record { held = held_from seats (step ∷ lower); limit = step.limit }) else standing seats class lower) e

pub class_passed : (seats : ByClass) (class : ℕ) (steps : Steps) (k : ℕ) (step : Step) (whole : Option Standing)
    → standing seats class (drop k steps) ≡ whole → k < length steps → step ≡ get_or steps k step → (step.class == class) ≡ false
    → standing seats class (drop (k + 1) steps) ≡ whole
class_passed seats class steps k step whole so_far inside is e =
    sym (by_test seats class step (drop (k + 1) steps) false e)
    ∙ sym (ap (standing seats class) (drop_step steps k step inside is)) ∙ so_far

same_standing : (a b : Standing) → a.held ≡ b.held → a.limit ≡ b.limit → a ≡ b
same_standing a b e f = λ i. record { held = e i; limit = f i }

pub class_found : (seats : ByClass) (class : ℕ) (steps ladder : Steps) (k : ℕ) (step : Step) (at : Standing) (whole : Option Standing)
    → standing seats class (drop k steps) ≡ whole → k < length steps → step ≡ get_or steps k step → (step.class == class) ≡ true
    → steps ≡ ladder → at.held ≡ held_from seats (drop k ladder) → at.limit ≡ step.limit → Some at ≡ whole
class_found seats class steps ladder k step at whole so_far inside is e same held limit =
    let rest : drop k steps ≡ step ∷ drop (k + 1) steps = drop_step steps k step inside is in
    let here : Standing = record { held = held_from seats (step ∷ drop (k + 1) steps); limit = step.limit } in
    let counted : at.held ≡ here.held = held ∙ ap (λ (l : Steps). held_from seats (drop k l)) (sym same) ∙ ap (held_from seats) rest in
    ap (λ (s : Standing). Some s) (same_standing at here counted limit)
    ∙ sym (by_test seats class step (drop (k + 1) steps) true e)
    ∙ sym (ap (standing seats class) rest) ∙ so_far

pub no_class : (seats : ByClass) (class : ℕ) (steps : Steps) (k : ℕ) (whole : Option Standing)
    → standing seats class (drop k steps) ≡ whole → length steps ≤ k → None ≡ whole
no_class seats class steps k whole so_far over = sym (ap (standing seats class) (drop_of_length-le steps over)) ∙ so_far
