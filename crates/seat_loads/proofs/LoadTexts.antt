-- The lines of legs, and the text of all of them.
use Rattle.std.proofs.Common.{arith, Bool, true, false, ◌≡◌, ℕ, ◌+◌, ◌<◌, ◌≤◌, List, [], ◌∷◌, ◌++◌, length, drop, get_or, refl, sym, ap, ◌∙◌, subst, append_assoc, codes, Option}
use Rattle.std.specs.List.{flat_map}
use Rattle.std.proofs.Math.ListN.{drop_of_length-le}
use Rattle.std.proofs.lemmas.List.{append-nil}
use Rattle.seat_questions.proofs.Common.{DatedLeg, Flight, Fits, Ladders, Steps, State, IsLegText}
use Rattle.seat_nesting.specs.Nesting.{ByClass, held_from, ladder_at, legs_of}
use Rattle.seat_nesting.specs.declared.ladder.Step.{Step}
use Rattle.seat_desk.specs.FlightsDesk.{IsPut, IsText, head_text}
use Rattle.seat_questions.specs.Rooms.{bars_text}
use Rattle.seat_questions.specs.declared.rooms.Bars.{Bars}
use Rattle.airline_base.specs.declared.place.Place.{Place}
use Rattle.seat_lists.specs.Picking.{keeps_flight}
use Rattle.seat_rules.specs.Bookings.{held, waiting}
use Rattle.seat_questions.specs.Why.{one_leg, room_text, wait_text}
use Rattle.seat_loads.specs.Legs.{classes_text, held_on, is_kept, load_text, load_texts, share_text, standing_text, top_limit}
use Rattle.seat_loads.specs.Loads.{IsFlightPart, IsFlightPartBy, IsLegLine, IsLegPart, IsLegPartBy, IsLoadsText, IsPutBehind}
use Rattle.seat_loads.specs.Sums.{AreSums, sums_text}
use Rattle.seat_loads.specs.declared.loads.LoadsOf.{LoadsOf}
use Rattle.seat_loads.specs.declared.sums.Sums.{Sums}
use Rattle.ssim_flights.proofs.Walks.{drop_step}

pub text_put : (asked : LoadsOf) (s : State) (flights : List Flight) (lines text : List ℕ) (sums : Sums)
    → IsText (IsFlightPart asked s) 0 flights lines → AreSums asked s flights sums → text ≡ lines ++ sums_text sums
    → IsLoadsText asked s flights text
text_put asked s flights lines text sums are_lines are_sums is =
    record { lines = lines; are_lines = are_lines; sums = sums; are_sums = are_sums; written = is }

-- ---- a leg

pub leg_left : (asked : LoadsOf) (s : State) (i : ℕ) (flight : Flight) (j : ℕ) (leg : DatedLeg) (text : List ℕ)
    → is_kept asked leg ≡ false → IsPutBehind (IsLegPart asked s i flight j leg) text text
leg_left asked s i flight j leg text e = record {
  part = [];
  is_part = subst (λ (b : Bool). IsLegPartBy b asked.bars s i flight j leg []) (sym e) refl;
  written = sym (append-nil text);
}

pub leg_kept : (asked : LoadsOf) (s : State) (i : ℕ) (flight : Flight) (j : ℕ) (leg : DatedLeg) (old new : List ℕ)
    → is_kept asked leg ≡ true → IsPutBehind (IsLegLine asked.bars s i flight j leg) old new
    → IsPutBehind (IsLegPart asked s i flight j leg) old new
leg_kept asked s i flight j leg old new e put = record {
  part = put.part;
  is_part = subst (λ (b : Bool). IsLegPartBy b asked.bars s i flight j leg put.part) (sym e) put.is_part;
  written = put.written;
}

pub flight_left : (asked : LoadsOf) (s : State) (i : ℕ) (flight : Flight) (text : List ℕ)
    → keeps_flight asked.flight flight ≡ false → IsPutBehind (IsFlightPart asked s i flight) text text
flight_left asked s i flight text e = record {
  part = [];
  is_part = subst (λ (b : Bool). IsFlightPartBy b asked s i flight []) (sym e) refl;
  written = sym (append-nil text);
}

pub flight_kept : (asked : LoadsOf) (s : State) (i : ℕ) (flight : Flight) (old new : List ℕ)
    → keeps_flight asked.flight flight ≡ true → IsPut (IsLegPart asked s i flight) 0 flight.legs old new
    → IsPutBehind (IsFlightPart asked s i flight) old new
flight_kept asked s i flight old new e put = record {
  part = put.part;
  is_part = subst (λ (b : Bool). IsFlightPartBy b asked s i flight put.part) (sym e) put.is_text;
  written = put.written;
}

assoc_four : (o a b c d : List ℕ) → (((o ++ a) ++ b) ++ c) ++ d ≡ o ++ (a ++ b ++ c ++ d)
assoc_four o a b c d = simp append_assoc

pub leg_put : (bars : Option Bars) (s : State) (i : ℕ) (flight : Flight) (j : ℕ) (leg : DatedLeg) (place : Place)
    (old a b c d new : List ℕ)
    → a ≡ old ++ head_text i flight → (way : List ℕ) × IsLegText 0 leg way × (b ≡ a ++ way)
    → c ≡ b ++ standing_text s i j → d ≡ c ++ 10 ∷ [] → new ≡ d ++ bars_text bars s place → place ≡ one_leg i j
    → IsPutBehind (IsLegLine bars s i flight j leg) old new
leg_put bars s i flight j leg place old a b c d new is_a way is_c is_d is_new here =
    let feed : List ℕ = 10 ∷ [] in
    let line : List ℕ = head_text i flight ++ way.0 ++ standing_text s i j ++ feed in
    let lined : d ≡ old ++ line =
    is_d ∙ ap (λ (l : List ℕ). l ++ feed)
    (is_c ∙ ap (λ (l : List ℕ). l ++ standing_text s i j) (way.2 ∙ ap (λ (l : List ℕ). l ++ way.0) is_a))
    ∙ assoc_four old (head_text i flight) way.0 (standing_text s i j) feed in
    record {
      part = line ++ bars_text bars s (one_leg i j);
      is_part = record { way = way.0; is_way = way.1; written = refl };
      written =
          is_new ∙ ap (λ (p : Place). d ++ bars_text bars s p) here
          ∙ ap (λ (l : List ℕ). l ++ bars_text bars s (one_leg i j)) lined
          ∙ append_assoc old line (bars_text bars s (one_leg i j));
    }

-- a leg that is there fits the grid alone
pub leg_fits : (grid : Ladders) (i j : ℕ) → j < length (legs_of grid i) → Fits grid (one_leg i j)
leg_fits grid i j there = (omega arith, there)

-- one class more
pub class_put : (seats : ByClass) (steps ladder : Steps) (i : ℕ) (s : Step) (count : ℕ) (mid new whole : List ℕ)
    → steps ≡ ladder → i < length steps → s ≡ get_or steps i s
    → count ≡ held_from seats (drop i ladder) → mid ++ load_texts seats (drop i steps) ≡ whole
    → new ≡ mid ++ load_text count s
    → new ++ load_texts seats (drop (i + 1) steps) ≡ whole
class_put seats steps ladder i s count mid new whole same inside is counted so_far put =
    let rest : drop i steps ≡ s ∷ drop (i + 1) steps = drop_step steps i s inside is in
    let here : count ≡ held_from seats (s ∷ drop (i + 1) steps) = counted ∙ ap (λ (l : Steps). held_from seats (drop i l)) (sym same) ∙ ap (held_from seats) rest in
    ap (λ (l : List ℕ). l ++ load_texts seats (drop (i + 1) steps)) (put ∙ ap (λ (n : ℕ). mid ++ load_text n s) here)
    ∙ append_assoc mid (load_text (held_from seats (s ∷ drop (i + 1) steps)) s) (load_texts seats (drop (i + 1) steps))
    ∙ ap (λ (l : Steps). mid ++ load_texts seats l) (sym rest)
    ∙ so_far

-- and all of them
pub classes_whole : (seats : ByClass) (steps : Steps) (i : ℕ) (all whole : List ℕ) → all ++ load_texts seats (drop i steps) ≡ whole
    → length steps ≤ i → all ≡ whole
classes_whole seats steps i all whole so_far over =
    sym (append-nil all) ∙ ap (λ (l : Steps). all ++ load_texts seats l) (sym (drop_of_length-le steps over)) ∙ so_far

-- ---- the standing of a leg

assoc_seven : (o a b c d e f g : List ℕ) → ((((((o ++ a) ++ b) ++ c) ++ d) ++ e) ++ f) ++ g ≡ o ++ (a ++ b ++ (c ++ d ++ e ++ f ++ g))
assoc_seven o a b c d e f g = simp append_assoc

pub standing_put : (s : State) (flight leg seats top : ℕ) (steps : Steps) (old a b c d e f new : List ℕ)
    → steps ≡ ladder_at s.grid flight leg → seats ≡ held_on s flight leg → top ≡ top_limit steps
    → a ≡ old ++ codes " LOAD " → b ≡ a ++ share_text seats top → c ≡ b ++ load_texts (held s.bookings flight leg) steps
    → d ≡ c ++ codes " ROOM" → e ≡ d ++ flat_map (room_text s flight leg) steps → f ≡ e ++ codes " WAIT"
    → new ≡ f ++ flat_map (wait_text (waiting s.bookings flight leg)) steps → new ≡ old ++ standing_text s flight leg
standing_put s flight leg seats top steps old a b c d e f new at held_is top_is is_a is_b is_c is_d is_e is_f is_new =
    let share : List ℕ = share_text seats top in
    let loads : List ℕ = load_texts (held s.bookings flight leg) steps in
    let rooms : List ℕ = flat_map (room_text s flight leg) steps in
    let waits : List ℕ = flat_map (wait_text (waiting s.bookings flight leg)) steps in
    let to_b : b ≡ (old ++ codes " LOAD ") ++ share = is_b ∙ ap (λ (l : List ℕ). l ++ share) is_a in
    let to_c : c ≡ ((old ++ codes " LOAD ") ++ share) ++ loads = is_c ∙ ap (λ (l : List ℕ). l ++ loads) to_b in
    let to_d : d ≡ (((old ++ codes " LOAD ") ++ share) ++ loads) ++ codes " ROOM" = is_d ∙ ap (λ (l : List ℕ). l ++ codes " ROOM") to_c in
    let to_e : e ≡ ((((old ++ codes " LOAD ") ++ share) ++ loads) ++ codes " ROOM") ++ rooms = is_e ∙ ap (λ (l : List ℕ). l ++ rooms) to_d in
    let to_f : f ≡ (((((old ++ codes " LOAD ") ++ share) ++ loads) ++ codes " ROOM") ++ rooms) ++ codes " WAIT" = is_f ∙ ap (λ (l : List ℕ). l ++ codes " WAIT") to_e in
    let classes : List ℕ = classes_text s flight leg steps in
    let flat : new ≡ old ++ (codes " LOAD " ++ share ++ classes) =
    is_new ∙ ap (λ (l : List ℕ). l ++ waits) to_f ∙ assoc_seven old (codes " LOAD ") share loads (codes " ROOM") rooms (codes " WAIT") waits in
    let seats_there : new ≡ old ++ (codes " LOAD " ++ share_text (held_on s flight leg) top ++ classes) =
    flat ∙ ap (λ (n : ℕ). old ++ (codes " LOAD " ++ share_text n top ++ classes)) held_is in
    let limit_there : new ≡ old ++ (codes " LOAD " ++ share_text (held_on s flight leg) (top_limit steps) ++ classes) =
    seats_there ∙ ap (λ (n : ℕ). old ++ (codes " LOAD " ++ share_text (held_on s flight leg) n ++ classes)) top_is in
    subst (λ (l : Steps). new ≡ old ++ (codes " LOAD " ++ share_text (held_on s flight leg) (top_limit l) ++ classes_text s flight leg l)) at limit_there
