-- No journals are both accepted and refused.
use Rattle.std.proofs.Common.{◌≡◌, ◌≢◌, ◌==◌, ℕ, zero, suc, ◌+◌, ◌<◌, ◌≤◌, Bool, true, false, nat_lt, List, [], ◌∷◌, ◌++◌, find, length, Option, Some, None, option_map, arith, refl, ap, sym, subst, ◌∙◌}
use Rattle.std.proofs.lemmas.Bool.Decides.{nat_tests}
use Rattle.std.proofs.lemmas.List.{get_or_past}
use Rattle.seat_nesting.specs.Nesting.{Ladders}
use Rattle.seat_journal.specs.declared.entry.Entry.{Entry}
use Rattle.seat_journal.proofs.TextLaws.{one_text}
use Rattle.seat_rules.specs.Flights.{flight_of, is_on}
use Rattle.seat_rules.specs.Journal.{IsLegal}
use Rattle.seat_rules.specs.declared.totals.Totals.{Totals}
use Rattle.seat_desk.specs.AuditDesk.{most_lines}
use Rattle.seat_desk.specs.declared.fault.DeskFault.{DeskFault}
use Rattle.seat_desk.specs.declared.fault.DeskFault.TheVariants.{TooLarge}
use Rattle.seat_parts.specs.OwnLines.{of_flight}
use Rattle.seat_parts.proofs.Flights.{on_its_flight}
use Rattle.seat_shards.specs.declared.fault.ShardFault.{ShardFault}
use Rattle.seat_shards.specs.declared.fault.ShardFault.TheVariants.{Desk, Journal, Shared}
use Rattle.taken_journals.specs.Owners.{first_shared, has_line, owner_among, owner_from}
use Rattle.seat_shards.specs.Shards.{journal_at}
use Rattle.seat_shards.specs.Taking.{AreTexts, AreTotalled, IsRefusedAlone, IsSharedText, IsTextOf, OneVerdict, RefusesBehind}

none_has : (f : ℕ) (xs : List Entry) → of_flight f xs ≡ [] → has_line f xs ≡ false
none_has f [] h = refl
none_has f (e ∷ xs) h = cases (is_on f e.work) refl (none_has f xs) where
  cases : (t : Bool) → is_on f e.work ≡ t → (of_flight f xs ≡ [] → has_line f xs ≡ false) → has_line f (e ∷ xs) ≡ false
  cases true on rest =
      let kept : of_flight f (e ∷ xs) ≡ e ∷ of_flight f xs = rw on refl in
      let both : e ∷ of_flight f xs ≡ [] = sym kept ∙ h in
      absurd (cc both)
  cases false off rest =
      let less : of_flight f (e ∷ xs) ≡ of_flight f xs = rw off refl in
      let left : has_line f (e ∷ xs) ≡ has_line f xs = rw off refl in
      left ∙ rest (sym less ∙ h)

some_has : (f : ℕ) (xs : List Entry) → has_line f xs ≡ true → of_flight f xs ≢ []
some_has f xs h none = let both : true ≡ false = sym h ∙ none_has f xs none in absurd (cc both)

-- a flight without a line in any journal has no owner
none_owns : (n f : ℕ) (others : List (List Entry)) → ((i : ℕ) → has_line f (journal_at others i) ≡ false) → owner_from n others f ≡ 0
none_owns n f [] h = refl
none_owns n f (j ∷ others) h =
    let off : has_line f j ≡ false = h 0 in
    let left : owner_from n (j ∷ others) f ≡ owner_from (n + 1) others f = rw off refl in
    left ∙ none_owns (n + 1) f others (λ i. h (suc i))

none_shared : (others : List (List Entry)) (xs : List Entry) → ((f : ℕ) → has_line f xs ≡ true → owner_from 1 others f ≡ 0)
    → find (λ e. nat_lt 0 (owner_among others (flight_of e.work))) xs ≡ None
none_shared others [] h = refl
none_shared others (e ∷ xs) h =
    let off : nat_lt 0 (owner_among others (flight_of e.work)) ≡ false = at (flight_of e.work) refl in
    let skip : find (λ e. nat_lt 0 (owner_among others (flight_of e.work))) (e ∷ xs) ≡ find (λ e. nat_lt 0 (owner_among others (flight_of e.work))) xs = rw off refl in
    skip ∙ none_shared others xs (λ f has. h f (more f has (is_on f e.work) refl))
  where
    here : (f : ℕ) → is_on f e.work ≡ true → has_line f (e ∷ xs) ≡ true
    here f on = rw on refl

    more : (f : ℕ) → has_line f xs ≡ true → (t : Bool) → is_on f e.work ≡ t → has_line f (e ∷ xs) ≡ true
    more f has true on = here f on
    more f has false off = let left : has_line f (e ∷ xs) ≡ has_line f xs = rw off refl in left ∙ has

    at : (o : Option ℕ) → flight_of e.work ≡ o → nat_lt 0 (owner_among others o) ≡ false
    at None is = refl
    at (Some f) is = ap (nat_lt 0) (h f (here f (on_its_flight e.work f is)))

-- ---- the journals of texts

text_at : (before : List (List ℕ)) (text : List ℕ) (behind : List (List ℕ)) (journals : List (List Entry))
    → AreTexts (before ++ text ∷ behind) journals → IsTextOf text (journal_at journals (length before))
text_at [] text behind [] are = absurd are
text_at [] text behind (j ∷ journals) are = are.0
text_at (b ∷ before) text behind [] are = absurd are
text_at (b ∷ before) text behind (j ∷ journals) are = text_at before text behind journals are.1

front_same : (before rest : List (List ℕ)) (journals others : List (List Entry)) → AreTexts (before ++ rest) journals
    → AreTexts before others → (i : ℕ) → i < length before → journal_at others i ≡ journal_at journals i
front_same [] rest journals others are front i lt = absurd (omega (arith, lt))
front_same (b ∷ before) rest [] others are front i lt = absurd are
front_same (b ∷ before) rest (j ∷ journals) [] are front i lt = absurd front
front_same (b ∷ before) rest (j ∷ journals) (o ∷ others) are front zero lt = one_text b o j front.0.is_text are.0.is_text
front_same (b ∷ before) rest (j ∷ journals) (o ∷ others) are front (suc i) lt =
    front_same before rest journals others are.1 front.1 i (omega (arith, lt))

front_long : (before : List (List ℕ)) (others : List (List Entry)) → AreTexts before others → length others ≡ length before
front_long [] [] front = refl
front_long [] (o ∷ others) front = absurd front
front_long (b ∷ before) [] front = absurd front
front_long (b ∷ before) (o ∷ others) front = ap suc (front_long before others front.1)

-- ---- the verdict

alone : (grid : Ladders) (fault : DeskFault) (text : List ℕ) (j : List Entry) → IsTextOf text j → IsLegal grid j → length j ≤ most_lines
    → IsRefusedAlone grid fault text → ⊥
alone grid TooLarge text j is legal few refused = omega (arith, is.within, refused)
alone grid _ text j is legal few refused = refused.none j is.is_text legal few

module _ (grid : Ladders) (texts : List (List ℕ)) (totals : Totals) (k : AreTotalled grid texts totals) (before : List (List ℕ)) (text : List ℕ)
    (behind : List (List ℕ)) (cut : texts ≡ before ++ text ∷ behind) (others : List (List Entry)) (front : AreTexts before others) where
  all : AreTexts (before ++ text ∷ behind) k.journals
  all = let P : List (List ℕ) → Type 0 = λ l. AreTexts l k.journals in subst P cut k.are_texts

  abbrev own : List Entry
  own = journal_at k.journals (length before)

  is_own : IsTextOf text own
  is_own = text_at before text behind k.journals all

  apart : (f : ℕ) → has_line f own ≡ true → (i : ℕ) → has_line f (journal_at others i) ≡ false
  apart f has i = cases (nat_lt i (length before)) refl where
    cases : (t : Bool) → nat_lt i (length before) ≡ t → has_line f (journal_at others i) ≡ false
    cases true a =
        let lt : i < length before = grind (arith, nat_tests) in
        let other : (length before == i) ≡ false = grind (arith, nat_tests, lt) in
        ap (has_line f) (front_same before (text ∷ behind) k.journals others all front i lt)
        ∙ none_has f (journal_at k.journals i) (k.shards.apart.each (length before) i f other (some_has f own has))
    cases false a =
        let past : length before ≤ i = grind (arith, nat_tests) in
        ap (has_line f) (get_or_past others i [] (omega (arith, past, front_long before others front)))

  shared : (number other : ℕ) → IsSharedText grid others text number other → ⊥
  shared number other is =
      let same : is.entries ≡ own = one_text text is.entries own is.is_text.is_text is_own.is_text in
      let none : find (λ e. nat_lt 0 (owner_among others (flight_of e.work))) own ≡ None = none_shared others own (λ f has. none_owns 1 f others (apart f has)) in
      let none_first : first_shared others own ≡ None = ap (option_map {U = ℕ × ℕ} (λ (e : Entry). (e.number, owner_among others (flight_of e.work)))) none in
      let some : first_shared others own ≡ Some (number, other) = sym (ap (first_shared others) same) ∙ is.first in
      absurd (not_both (number, other) (sym some ∙ none_first))
    where
      not_both : (p : ℕ × ℕ) → Some p ≡ None → ⊥
      not_both p e = cc e

  by_itself : (fault : DeskFault) → IsRefusedAlone grid fault text → ⊥
  by_itself fault refused = alone grid fault text own is_own (k.shards.legal (length before)) (k.shards.few (length before)) refused

pub one_verdict : OneVerdict
one_verdict grid texts totals fault k r = by fault r.refused where
  by : (fault : ShardFault) → RefusesBehind grid r.journals r.text fault → ⊥
  by (Desk fault) refused = refused
  by (Journal place fault) refused = by_itself grid texts totals k r.before r.text r.behind r.cut r.journals r.are_texts fault refused.1
  by (Shared place number other) refused =
      shared grid texts totals k r.before r.text r.behind r.cut r.journals r.are_texts number other refused.1
