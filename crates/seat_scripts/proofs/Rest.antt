-- What is left of scripts and changes behind a journal that has a beginning of them.
use Rattle.seat_journal.specs.declared.entry.Control.{Control}
use Rattle.std.proofs.Common.{◌≡◌, ◌+◌, inl, inr, ℕ, zero, suc, List, [], ◌∷◌, length, drop, take, refl, sym, ap, ◌∙◌, subst}
use Rattle.std.proofs.lemmas.List.Elements.{All-drop}
use Rattle.airimp_lines.specs.Grammar.{IsRightSegment}
use Rattle.ssim_flights.specs.declared.flight.Flight.{Flight as Flown}
use Rattle.seat_desk.specs.declared.fault.DeskFault.TheVariants.{NoBehind}
use Rattle.seat_rules.specs.Journal.{calls_of}
use Rattle.seat_scripts.proofs.Common.{AllByRecursion, Entry, Request, DeskFault, Unasked, done_by}
use Rattle.seat_scripts.specs.Against.{IsNoPast, IsParted}
use Rattle.seat_replies.specs.Changes.{IsOnLeg}
use Rattle.seat_replies.specs.Requests.{AreRight}
use Rattle.seat_scripts.specs.Resuming.{AreLeft, AreMade, IsFirstOther, IsNoRest, IsRestOf, IsUnbegun, IsUnmadeBy, changes_left, left_from}

-- ---- facts that a rest keeps

pub left_count : (session : ℕ) (scripts : List (List Request)) (begun : List Entry)
    → length (left_from session scripts begun) ≡ length scripts
left_count session [] begun = refl
left_count session (script ∷ scripts) begun = ap suc (left_count (suc session) scripts begun)

left_right : (session : ℕ) (scripts : List (List Request)) (begun : List Entry) → AllByRecursion AreRight scripts
    → AllByRecursion AreRight (left_from session scripts begun)
left_right session [] begun right = tt
left_right session (script ∷ scripts) begun right = (
  record { each = All-drop (λ (r : Request). IsRightSegment r.segment) (length (done_by session begun)) script right.0.each },
  left_right (suc session) scripts begun right.1,
)

all_dropped : {A : Type 0} → (P : A → Type 0) (k : ℕ) (xs : List A) → AllByRecursion P xs → AllByRecursion P (drop k xs)
all_dropped P zero xs all = all
all_dropped P (suc k) [] all = tt
all_dropped P (suc k) (x ∷ xs) all = all_dropped P k xs all.1

module _ (flights : List Flown) (scripts : List (List Request)) (changes : List Control) (older : List Entry) (more : ℕ) (journal : List Entry) (left : List (List Request)) (rest : List Control)
    (is : IsRestOf flights scripts changes older more journal left rest) where
  pub rest_count : length left ≡ length scripts
  rest_count = ap length is.are_left.left_is ∙ left_count 1 scripts is.begun

  pub rest_right : AllByRecursion AreRight scripts → AllByRecursion AreRight left
  rest_right right = subst (AllByRecursion AreRight) (sym is.are_left.left_is) (left_right 1 scripts is.begun right)

  pub rest_legs : AllByRecursion (IsOnLeg flights) changes → AllByRecursion (IsOnLeg flights) rest
  rest_legs legs = subst (AllByRecursion (IsOnLeg flights)) (sym is.rest_is) (all_dropped (IsOnLeg flights) (length (done_by 0 is.begun)) changes legs)

-- ---- the rest behind a past

-- the fault of a line of the manager
pub unmade_line : (changes : List Control) (past begun : List Entry) (place : ℕ) (fault : DeskFault)
    → fault ≡ Unasked 0 (calls_of past 0 + place) → IsFirstOther changes begun place → IsUnmadeBy changes past begun fault
unmade_line changes past begun place fault is first =
    subst (IsUnmadeBy changes past begun) (sym is) (record { place = place; manager = refl; first = first; call_is = refl })

module _ (flights : List Flown) (scripts : List (List Request)) (changes : List Control) (older : List Entry) (more : ℕ) (journal : List Entry) where
  -- a journal without such a past
  pub no_rest_past : (fault : DeskFault) → IsNoPast older more journal fault
      → IsNoRest flights scripts changes older more journal fault
  no_rest_past (Unasked session call) none = inl none
  no_rest_past NoBehind none = none
  no_rest_past _ none = absurd none

  module _ (past : ℕ) (parted : IsParted older more (take past journal) (drop past journal) journal) where
    pub no_rest_made : (fault : DeskFault) → IsUnmadeBy changes (take past journal) (drop past journal) fault
        → IsNoRest flights scripts changes older more journal fault
    no_rest_made (Unasked session call) unmade = inr (record { past = take past journal; begun = drop past journal; parted = parted; other = inl unmade })
    no_rest_made _ unmade = absurd unmade

    pub no_rest_begun : (fault : DeskFault) → AreMade changes (drop past journal)
        → IsUnbegun flights scripts (take past journal) (drop past journal) fault
        → IsNoRest flights scripts changes older more journal fault
    no_rest_begun (Unasked session call) made unbegun = inr (record { past = take past journal; begun = drop past journal; parted = parted; other = inr (made, unbegun) })
    no_rest_begun _ made unbegun = absurd unbegun

    pub is_rest : (left : List (List Request)) (rest : List Control) → AreMade changes (drop past journal)
        → rest ≡ changes_left changes (drop past journal) → AreLeft flights scripts (drop past journal) left
        → IsRestOf flights scripts changes older more journal left rest
    is_rest left rest made is_left are_left = record {
      past = take past journal;
      begun = drop past journal;
      parted = parted;
      are_made = made;
      are_left = are_left;
      rest_is = is_left;
    }
