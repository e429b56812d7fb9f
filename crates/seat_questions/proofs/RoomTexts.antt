-- The texts of places, of their rooms and of bars.
use Rattle.std.proofs.Common.{arith, Bool, true, false, ◌≡◌, ◌&&◌, ℕ, zero, suc, ◌+◌, ◌-◌, ◌<◌, List, [], ◌∷◌, ◌++◌, length, drop, get_or, refl, sym, ap, ◌∙◌, subst, append_assoc}
use Rattle.seat_questions.proofs.Common.{Place, DatedLeg, Flight, Ladders, Steps, Entry, replay, State, IsLegText}
use Rattle.std.specs.Prelude.{slice_get, unwrap_or, option_map, Option, Some, None}
use Rattle.std.proofs.lemmas.Bool.{and_parts, eq-eqb}
use Rattle.std.proofs.lemmas.List.{append-nil, length-map}
use Rattle.std.proofs.lemmas.Option.{slice_get-map}
use Rattle.seat_limits.specs.Authorised.{authorised_grid, authorised_legs}
use Rattle.seat_nesting.specs.Nesting.{ByClass, held_from, legs_of}
use Rattle.seat_nesting.specs.declared.ladder.Step.{Step}
use Rattle.seat_rules.specs.Bookings.{same_place}
use Rattle.seat_rules.proofs.History.Faults.{place_same}
use Rattle.seat_desk.specs.FlightsDesk.{head_text}
use Rattle.seat_desk.specs.Loading.{IsGridOf}
use Rattle.seat_desk.proofs.After.{holds_of}
use Rattle.seat_desk.proofs.Texts.{assoc_four}
use Rattle.seat_questions.proofs.Covers.{assoc_six}
use Rattle.seat_questions.specs.Rooms.{FoundPlacesAreWritten, IsAdded, IsAnsweredHere, IsPlaceText, IsPlaceTextBy, IsRoomsText, IsRunText, OpeningRoomsAreOfNoLines, WrittenPlacesAreFound, bar_line, bar_lines, bars_text, block_bar, is_found, is_place, is_shown, keeps, rooms_part, times, wanted_of}
use Rattle.seat_questions.specs.declared.rooms.RoomsOf.{RoomsOf}
use Rattle.seat_questions.specs.declared.rooms.Bars.{Bars}
use Rattle.ssim_flights.specs.Places.{place_wanted}
use Rattle.ssim_flights.proofs.Walks.{drop_step}

-- ---- the state

-- a text without lines is that of no others
pub opening_rooms_are_of_no_lines : OpeningRoomsAreOfNoLines
opening_rooms_are_of_no_lines asked flights grid journal text =
    holds_of (λ (l : List Entry). IsRoomsText asked (replay grid l) flights text) grid journal []

-- a flight has as many ladders as legs
pub legs_alike : (flights : List Flight) (grid : Ladders) (i : ℕ) (flight : Flight) → IsGridOf flights grid
    → slice_get flights i ≡ Some flight
    → length (legs_of grid i) ≡ length flight.legs
legs_alike flights grid i flight is at =
    let here : slice_get (authorised_grid is.rows flights) i ≡ Some (authorised_legs is.rows flight) =
    slice_get-map (authorised_legs is.rows) flights i ∙ ap (λ (o : Option Flight). option_map (authorised_legs is.rows) o) at in
    ap (λ (g : Ladders). length (legs_of g i)) is.is ∙ ap (λ (o : Option (List Steps)). length (unwrap_or o [])) here ∙ length-map flight.legs _

-- ---- places

pub run_left : (flights : List Flight) (asked : RoomsOf) (state : State) (flight : Flight) (place : Place)
    (run : DatedLeg) (text : List ℕ) → is_shown flights asked flight place run ≡ false
    → IsAdded (IsRunText flights asked state flight place run) text text
run_left flights asked state flight place run text e = record {
  part = [];
  is_part = subst (λ (b : Bool). IsPlaceTextBy b asked.bars state flight place run []) (sym e) refl;
  written = sym (append-nil text);
}

pub run_shown : (flights : List Flight) (asked : RoomsOf) (state : State) (flight : Flight) (place : Place)
    (run : DatedLeg) (old new : List ℕ) → is_shown flights asked flight place run ≡ true
    → IsAdded (IsPlaceText asked.bars state flight place run) old new
    → IsAdded (IsRunText flights asked state flight place run) old new
run_shown flights asked state flight place run old new e added = record {
  part = added.part;
  is_part = subst (λ (b : Bool). IsPlaceTextBy b asked.bars state flight place run added.part) (sym e) added.is_part;
  written = added.written;
}

place_is : (place : Place) (o : Option Place) → is_place place o ≡ true → o ≡ Some place
place_is place None e = absurd cc
place_is place (Some other) e = ap (λ (p : Place). Some p) (place_same other place e)

-- what is written of a place is its line, and a request finds it
pub written_places_are_found : WrittenPlacesAreFound
written_places_are_found flights asked state flight place run text is some =
    cases (is_shown flights asked flight place run) refl is
  where
    cases : (b : Bool) → is_shown flights asked flight place run ≡ b
        → IsPlaceTextBy b asked.bars state flight place run text
        → IsAnsweredHere flights asked.bars state flight place run text
    cases true e line = record {
      found = place_is place (place_wanted flights (wanted_of flight run))
          (and_parts (keeps asked run) (is_found flights flight place run) e).1;
      line = line;
    }
    cases false e none = absurd (some none)

-- one that is kept and found is written
pub found_places_are_written : FoundPlacesAreWritten
found_places_are_written flights asked state flight place run text is kept found =
    subst (λ (b : Bool). IsPlaceTextBy b asked.bars state flight place run text) shown is
  where
    itself : (p : Place) → same_place p p ≡ true
    itself p = rw (eq-eqb p.flight p.flight refl, eq-eqb p.from p.from refl, eq-eqb p.to p.to refl) refl

    shown : is_shown flights asked flight place run ≡ true
    shown =
        ap (λ (o : Option Place). keeps asked run && is_place place o) found
        ∙ ap (λ (b : Bool). b && same_place place place) kept
        ∙ itself place

pub place_added : (bars : Option Bars) (state : State) (flight : Flight) (place : Place) (run : DatedLeg)
    (old head mid rooms end new : List ℕ)
    → head ≡ old ++ head_text place.flight flight → (way : List ℕ) × IsLegText 0 run way × (mid ≡ head ++ way)
    → rooms ≡ mid ++ rooms_part state place → end ≡ rooms ++ 10 ∷ [] → new ≡ end ++ bars_text bars state place
    → IsAdded (IsPlaceText bars state flight place run) old new
place_added bars state flight place run old head mid rooms end new is_head way is_rooms is_end is_new =
    let feed : List ℕ = 10 ∷ [] in
    let below : List ℕ = bars_text bars state place in
    record {
      part = (head_text place.flight flight ++ way.0 ++ rooms_part state place ++ feed) ++ below;
      is_part = (way.0, way.1, refl);
      written =
          is_new ∙ ap (λ (l : List ℕ). l ++ below)
          (is_end ∙ ap (λ (l : List ℕ). l ++ feed)
          (is_rooms ∙ ap (λ (l : List ℕ). l ++ rooms_part state place) (way.2 ∙ ap (λ (l : List ℕ). l ++ way.0) is_head)))
          ∙ assoc_six old (head_text place.flight flight) way.0 (rooms_part state place) feed below;
    }

-- ---- bars

-- the bar of one rank more
pub rank_put : (bars : Bars) (seats : ByClass) (steps : Steps) (i : ℕ) (s : Step) (count : ℕ) (mid new whole : List ℕ)
    → i < length steps → s ≡ get_or steps i s
    → count ≡ held_from seats (drop i steps) → mid ++ bar_lines bars seats (drop i steps) ≡ whole
    → new ≡ mid ++ bar_line bars s.class count s.limit
    → new ++ bar_lines bars seats (drop (i + 1) steps) ≡ whole
rank_put bars seats steps i s count mid new whole inside is counted so_far put =
    let rest : drop i steps ≡ s ∷ drop (i + 1) steps = drop_step steps i s inside is in
    let here : count ≡ held_from seats (s ∷ drop (i + 1) steps) = counted ∙ ap (held_from seats) rest in
    ap (λ (l : List ℕ). l ++ bar_lines bars seats (drop (i + 1) steps)) (put ∙ ap (λ (n : ℕ). mid ++ bar_line bars s.class n s.limit) here)
    ∙ append_assoc mid (bar_line bars s.class (held_from seats (s ∷ drop (i + 1) steps)) s.limit) (bar_lines bars seats (drop (i + 1) steps))
    ∙ ap (λ (l : Steps). mid ++ bar_lines bars seats l) (sym rest)
    ∙ so_far

-- once more the same bytes
times_next : (n : ℕ) (bytes : List ℕ) → times n bytes ++ bytes ≡ times (suc n) bytes
times_next zero bytes = sym (append-nil bytes)
times_next (suc n) bytes = append_assoc bytes (times n bytes) bytes ∙ ap (λ (l : List ℕ). bytes ++ l) (times_next n bytes)

pub times_more : (n : ℕ) (bytes old mid new : List ℕ) → mid ≡ old ++ times n bytes → new ≡ mid ++ bytes
    → new ≡ old ++ times (n + 1) bytes
times_more n bytes old mid new so_far put =
    let e : suc n ≡ n + 1 = omega arith in
    put ∙ ap (λ (l : List ℕ). l ++ bytes) so_far ∙ append_assoc old (times n bytes) bytes
    ∙ ap (λ (l : List ℕ). old ++ l) (times_next n bytes) ∙ ap (λ (k : ℕ). old ++ times k bytes) e

-- ---- blocks

-- with a half block
pub half_put : (n m : ℕ) (half : Bool) (old full mid new : List ℕ) → half ≡ true
    → full ≡ old ++ times n (226 ∷ 150 ∷ 136 ∷ []) → mid ≡ full ++ 226 ∷ 150 ∷ 140 ∷ []
    → m ≡ 19 - n → new ≡ mid ++ times m (194 ∷ 183 ∷ []) → new ≡ old ++ block_bar n half
half_put n m half old full mid new e is_full is_mid is_left is_new =
    let whole : List ℕ = times n (226 ∷ 150 ∷ 136 ∷ []) in
    let one : List ℕ = 226 ∷ 150 ∷ 140 ∷ [] in
    let dots : List ℕ = times (19 - n) (194 ∷ 183 ∷ []) in
    subst (λ (b : Bool). new ≡ old ++ block_bar n b) (sym e)
    (is_new ∙ ap (λ (k : ℕ). mid ++ times k (194 ∷ 183 ∷ [])) is_left ∙ ap (λ (l : List ℕ). l ++ dots) (is_mid ∙ ap (λ (l : List ℕ). l ++ one) is_full) ∙ assoc_four old whole one dots)

-- and without
pub whole_put : (n m : ℕ) (half : Bool) (old full new : List ℕ) → half ≡ false
    → full ≡ old ++ times n (226 ∷ 150 ∷ 136 ∷ [])
    → m ≡ 20 - n → new ≡ full ++ times m (194 ∷ 183 ∷ []) → new ≡ old ++ block_bar n half
whole_put n m half old full new e is_full is_left is_new =
    let dots : List ℕ = times (20 - n) (194 ∷ 183 ∷ []) in
    subst (λ (b : Bool). new ≡ old ++ block_bar n b) (sym e)
    (is_new ∙ ap (λ (k : ℕ). full ++ times k (194 ∷ 183 ∷ [])) is_left ∙ ap (λ (l : List ℕ). l ++ dots) is_full ∙ append_assoc old (times n (226 ∷ 150 ∷ 136 ∷ [])) dots)
