-- The legs of a place, and the seats that are held and wait on them.
use Rattle.std.proofs.Common.{◌≡◌, ◌==◌, ◌&&◌, ℕ, ◌+◌, ◌≤◌, nat_le, Bool, true, false, List, [], ◌∷◌, ◌++◌, length, fold, drop, get_or, ◌<◌, Some, None, slice_get, codes, arith, refl, ap, sym, subst, ◌∙◌, append_assoc}
use Rattle.seat_questions.proofs.Common.{Place, DatedLeg, Flight, Fits, Ladders, Steps, Booking, Entry, replay, State, IsLegText, IsPut}
use Rattle.std.proofs.lemmas.List.{append-nil}
use Rattle.std.proofs.lemmas.Bool.Decides.{nat_tests}
use Rattle.std.proofs.lemmas.Option.{slice_get_past}
use Rattle.seat_nesting.specs.Nesting.{ByClass, held_from}
use Rattle.seat_nesting.specs.declared.ladder.Step.{Step}
use Rattle.seat_rules.specs.Bookings.{waiting}
use Rattle.seat_rules.specs.Flights.{bookings_on}
use Rattle.seat_rules.specs.Journal.{after}
use Rattle.seat_rules.proofs.Filters.{few_pass}
use Rattle.seat_rules.proofs.Flight.View.{bookings_view, waiting_view}
use Rattle.seat_rules.proofs.Step.Limits.{few_answer}
use Rattle.seat_desk.specs.AuditDesk.{most_lines}
use Rattle.seat_desk.proofs.Texts.{put_none}
use Rattle.seat_questions.specs.Why.{IsLegPart, IsLegPartBy, IsLegPut, IsPlacePut, IsStandingPut, class_text, dated_legs, has_leg, held_texts, legs_in, one_leg, standing_text}
use Rattle.ssim_flights.proofs.Walks.{drop_step}

-- ---- bookings of one flight

few_after : (s : State) (journal : List Entry)
    → length (fold after s journal).bookings ≤ length s.bookings + length journal
few_after s [] = omega arith
few_after s (e ∷ es) = omega (arith, few_after (after s e) es, few_answer s e.number e.work)

-- a flight has no more live bookings than the journal lines
pub few_bookings : (grid : Ladders) (journal : List Entry) (most f : ℕ) (bookings : List Booking)
    → length journal ≤ most → most ≤ most_lines
    → bookings ≡ bookings_on f (replay grid journal).bookings → length bookings ≤ 999999
few_bookings grid journal most f bookings few capped is =
    let here : length bookings ≡ length (bookings_on f (replay grid journal).bookings) = ap (λ (l : List Booking). length l) is in
    omega (arith, here, few_pass (λ b. b.place.flight == f) (replay grid journal).bookings, few_after (record { grid = grid; bookings = [] }) journal, few, capped)

-- what waits on a flight's leg is told by its own bookings
pub waiting_there : (f : ℕ) (all bookings : List Booking) (leg class n : ℕ) → bookings ≡ bookings_on f all
    → n ≡ waiting bookings f leg class → n ≡ waiting all f leg class
waiting_there f all bookings leg class n is e =
    e ∙ ap (λ (l : List Booking). waiting l f leg class) (is ∙ sym (bookings_view f all)) ∙ waiting_view (λ k. k) f all leg class

-- ---- the ranks of a leg

-- one more of HELD
pub held_put : (seats : ByClass) (steps ladder : Steps) (i : ℕ) (s : Step) (count : ℕ) (mid new whole : List ℕ)
    → steps ≡ ladder → i < length steps → s ≡ get_or steps i s
    → count ≡ held_from seats (drop i ladder) → mid ++ held_texts seats (drop i steps) ≡ whole
    → new ≡ mid ++ class_text s.class count
    → new ++ held_texts seats (drop (i + 1) steps) ≡ whole
held_put seats steps ladder i s count mid new whole same inside is counted so_far put =
    let rest : drop i steps ≡ s ∷ drop (i + 1) steps = drop_step steps i s inside is in
    let here : count ≡ held_from seats (s ∷ drop (i + 1) steps) = counted ∙ ap (λ (l : Steps). held_from seats (drop i l)) (sym same) ∙ ap (held_from seats) rest in
    ap (λ (l : List ℕ). l ++ held_texts seats (drop (i + 1) steps)) (put ∙ ap (λ (n : ℕ). mid ++ class_text s.class n) here)
    ∙ append_assoc mid (class_text s.class (held_from seats (s ∷ drop (i + 1) steps))) (held_texts seats (drop (i + 1) steps))
    ∙ ap (λ (l : Steps). mid ++ held_texts seats l) (sym rest)
    ∙ so_far

-- ---- a leg

assoc_five : (o a b c d : List ℕ) → (((o ++ a) ++ b) ++ c) ++ d ≡ o ++ (((a ++ b) ++ c) ++ d)
assoc_five o a b c d = simp append_assoc

pub standing_put : (s : State) (flight leg : ℕ) (dated : DatedLeg) (old a b c new : List ℕ) → a ≡ old ++ codes "LEG"
    → (way : List ℕ) × IsLegText 0 dated way × (b ≡ a ++ way) → c ≡ b ++ 10 ∷ [] → new ≡ c ++ standing_text s flight leg
    → IsStandingPut s flight leg dated old new
standing_put s flight leg dated old a b c new is_a way is_c is_new = record {
  part = ((codes "LEG" ++ way.0) ++ 10 ∷ []) ++ standing_text s flight leg;
  is_standing = record { way = way.0; is_way = way.1; written = refl };
  put = is_new
      ∙ ap (λ (l : List ℕ). l ++ standing_text s flight leg) (is_c ∙ ap (λ (l : List ℕ). l ++ 10 ∷ []) (way.2 ∙ ap (λ (l : List ℕ). l ++ way.0) is_a))
      ∙ assoc_five old (codes "LEG") way.0 (10 ∷ []) (standing_text s flight leg);
}

by_false : (b : Bool) (s : State) (flight leg : ℕ) (dated : DatedLeg) → b ≡ false → IsLegPartBy b s flight leg dated []
by_false b s flight leg dated e = rw e refl

-- a leg that the place does not cover has no lines
pub leg_away : (s : State) (place : Place) (leg : ℕ) (dated : DatedLeg) (text : List ℕ) → has_leg place leg ≡ false
    → IsLegPut s place leg dated text text
leg_away s place leg dated text e =
    record { part = []; is_part = by_false (has_leg place leg) s place.flight leg dated e; put = sym (append-nil text) }

-- one that it covers has them
pub leg_there : (s : State) (place : Place) (leg : ℕ) (dated : DatedLeg) (old new : List ℕ) → has_leg place leg ≡ true
    → IsStandingPut s place.flight leg dated old new → IsLegPut s place leg dated old new
leg_there s place leg dated old new e put =
    record { part = put.part; is_part = subst (λ (b : Bool). IsLegPartBy b s place.flight leg dated put.part) (sym e) put.is_standing; put = put.put }

-- and it fits the grid alone, where the place does
pub leg_fits : (grid : Ladders) (place : Place) (leg : ℕ) → Fits grid place → has_leg place leg ≡ true
    → Fits grid (one_leg place.flight leg)
leg_fits grid place leg fits e = cases (nat_le leg place.to) refl where
  cases : (b : Bool) → nat_le leg place.to ≡ b → Fits grid (one_leg place.flight leg)
  cases true h = let below : leg ≤ place.to = grind (arith, nat_tests) in (omega arith, omega (arith, below, fits.1))
  cases false h = absurd (no (nat_le place.from leg) (nat_le leg place.to) h e)
    where
      no : (a b : Bool) → b ≡ false → (a && b) ≡ true → ⊥
      no true b h e = cc
      no false b h e = cc

-- ---- the legs of a place

pub place_none : (flights : List Flight) (s : State) (text : List ℕ) → IsPlacePut flights s None text text
place_none flights s text = record { part = []; is_text = refl; put = sym (append-nil text) }

pub place_some : (flights : List Flight) (s : State) (place : Place) (old new : List ℕ)
    → IsPut (IsLegPart s place) 0 (dated_legs flights place.flight) old new
    → IsPlacePut flights s (Some place) old new
place_some flights s place old new put = record { part = put.part; is_text = put.is_text; put = put.written }

-- a flight that is not there has no legs
pub no_flight : (flights : List Flight) (s : State) (place : Place) (text : List ℕ) → length flights ≤ place.flight
    → IsPut (IsLegPart s place) 0 (dated_legs flights place.flight) text text
no_flight flights s place text over =
    let none : dated_legs flights place.flight ≡ [] = ap legs_in (slice_get_past flights place.flight over) in
    subst (λ (l : List DatedLeg). IsPut (IsLegPart s place) 0 l text text) (sym none) (put_none (IsLegPart s place) 0 text)

pub flight_there : (flights : List Flight) (s : State) (place : Place) (flight : Flight) (legs : List DatedLeg)
    (old new : List ℕ) → slice_get flights place.flight ≡ Some flight
    → legs ≡ flight.legs → IsPut (IsLegPart s place) 0 legs old new
    → IsPut (IsLegPart s place) 0 (dated_legs flights place.flight) old new
flight_there flights s place flight legs old new e is put =
    subst (λ (l : List DatedLeg). IsPut (IsLegPart s place) 0 l old new) (is ∙ sym (ap legs_in e)) put
