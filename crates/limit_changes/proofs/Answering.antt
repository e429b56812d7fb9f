-- The answer over a replay.
use Rattle.std.proofs.Common.{◌≡◌, ℕ, true, false, List, [], ◌++◌, ap, subst, ◌∙◌}
use Rattle.ssim_flights.specs.declared.flight.Flight.{Flight as Flown}
use Rattle.seat_nesting.specs.Nesting.{Ladders}
use Rattle.seat_rules.specs.Sequential.{State}
use Rattle.seat_desk.specs.FlightsDesk.{IsPut, IsText}
use Rattle.limit_changes.specs.Answers.{AreShortLines, IsChangesText, IsShortsText}
use Rattle.limit_changes.specs.Legs.{legs_by}
use Rattle.limit_changes.specs.Lines.{IsRowLine, IsShortLine, IsUnnamedLine}
use Rattle.limit_changes.specs.Rows.{rows}
use Rattle.limit_changes.specs.Shorts.{shorts, unnamed}
use Rattle.limit_changes.specs.declared.legs.LegsAsked.{LegsAsked}
use Rattle.limit_changes.specs.declared.legs.NamedLeg.{NamedLeg}
use Rattle.limit_changes.specs.declared.rows.Row.{Row}
use Rattle.limit_changes.specs.declared.shorts.Short.{Short}

pub over_wanted : (asked : LegsAsked) (flights : List Flown) (rows wanted : Ladders) (s : State) (text : List ℕ) → wanted ≡ rows
    → IsChangesText asked flights wanted s text → IsChangesText asked flights rows s text
over_wanted asked flights rows wanted s text same are = subst (λ (w : Ladders). IsChangesText asked flights w s text) same are

pub changes_text : (asked : LegsAsked) (flights found : List Flown) (wanted : Ladders) (s : State) (legs slice : List NamedLeg) (all shown : List Row)
    (text : List ℕ) → found ≡ flights → legs ≡ legs_by true found asked flights → slice ≡ legs → all ≡ rows wanted s slice → shown ≡ all
    → IsText (λ n. IsRowLine) 0 shown text → IsChangesText asked flights wanted s text
changes_text asked flights found wanted s legs slice all shown text own kept same are is lines =
    subst (λ (l : List Row). IsText (λ n. IsRowLine) 0 l text)
    (is ∙ are ∙ ap (rows wanted s) (same ∙ kept ∙ ap (λ (f : List Flown). legs_by true f asked flights) own)) lines

pub both_texts : (short unnamed : List Short) (none mid text : List ℕ) → none ≡ [] → IsPut (λ n. IsShortLine) 0 short none mid
    → IsPut (λ n. IsUnnamedLine) 0 unnamed mid text → AreShortLines short unnamed text
both_texts short unnamed none mid text empty first last = record {
  first = first.part;
  are_first = first.is_text;
  last = last.part;
  are_last = last.is_text;
  written = last.written ∙ ap (λ (l : List ℕ). l ++ last.part) (first.written ∙ ap (λ (l : List ℕ). l ++ first.part) empty);
}

pub shorts_text : (asked : LegsAsked) (flights found : List Flown) (wanted : Ladders) (s : State) (legs slice others slice' : List NamedLeg)
    (all shown left shown' : List Short) (text : List ℕ) → found ≡ flights → legs ≡ legs_by true found asked flights → slice ≡ legs
    → all ≡ shorts wanted s slice → shown ≡ all → others ≡ legs_by false found asked flights → slice' ≡ others → left ≡ unnamed wanted s slice'
    → shown' ≡ left → AreShortLines shown shown' text → IsShortsText asked flights wanted s text
shorts_text asked flights found wanted s legs slice others slice' all shown left shown' text own kept same are is kept' same' are' is' lines =
    let one : shown ≡ shorts wanted s (legs_by true flights asked flights) =
    is ∙ are ∙ ap (shorts wanted s) (same ∙ kept ∙ ap (λ (f : List Flown). legs_by true f asked flights) own) in
    let two : shown' ≡ unnamed wanted s (legs_by false flights asked flights) =
    is' ∙ are' ∙ ap (unnamed wanted s) (same' ∙ kept' ∙ ap (λ (f : List Flown). legs_by false f asked flights) own) in
    subst (λ (l : List Short). AreShortLines l (unnamed wanted s (legs_by false flights asked flights)) text) one
    (subst (λ (l : List Short). AreShortLines shown l text) two lines)
