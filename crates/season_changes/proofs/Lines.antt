-- The lines of changes.
use Rattle.std.proofs.Common.{◌≡◌, ◌+◌, ◌<◌, ℕ, Bool, true, false, List, [], ◌∷◌, ◌++◌, length, take, get_or, refl, sym, ap, subst, ◌∙◌, append_assoc, codes}
use Rattle.std.proofs.lemmas.List.{append-nil}
use Rattle.airline_base.specs.Days.{IsDateText}
use Rattle.seat_desk.specs.FlightsDesk.{IsPut}
use Rattle.seat_desk.proofs.Texts.{put_more}
use Rattle.season_changes.specs.Lines.{changed_text, designator_text, is_outside, seats_text, what_text, word_if, IsChangeLine, IsChangePart, IsPartBy, IsPutBehind}
use Rattle.season_changes.specs.declared.changes.Change.{Change}

pub no_line : (has_journal : Bool) (change : Change) (text : List ℕ) → is_outside change.what ≡ true
    → IsPutBehind (IsChangePart has_journal change) text text
no_line has_journal change text e = record {
  part = [];
  is_part = subst (λ (b : Bool). IsPartBy b has_journal change []) (sym e) refl;
  written = sym (append-nil text);
}

pub line_of : (has_journal : Bool) (change : Change) (old new : List ℕ) → is_outside change.what ≡ false
    → IsPutBehind (IsChangeLine has_journal change) old new → IsPutBehind (IsChangePart has_journal change) old new
line_of has_journal change old new e put = record {
  part = put.part;
  is_part = subst (λ (b : Bool). IsPartBy b has_journal change put.part) (sym e) put.is_part;
  written = put.written;
}

three : (o a b c : List ℕ) → ((o ++ a) ++ b) ++ c ≡ o ++ (a ++ b ++ c)
three o a b c = simp append_assoc

pub changed_put : (legs times limits : Bool) (old t1 t2 new : List ℕ) → t1 ≡ old ++ word_if legs (codes "LEGS ")
    → t2 ≡ t1 ++ word_if times (codes "TIMES ") → new ≡ t2 ++ word_if limits (codes "LIMITS ") → new ≡ old ++ changed_text legs times limits
unfolding changed_text
changed_put legs times limits old t1 t2 new a b c =
    c
    ∙ ap (λ (l : List ℕ). l ++ word_if limits (codes "LIMITS ")) (b ∙ ap (λ (l : List ℕ). l ++ word_if times (codes "TIMES ")) a)
    ∙ three old (word_if legs (codes "LEGS ")) (word_if times (codes "TIMES ")) (word_if limits (codes "LIMITS "))

six : (a b c d e f g : List ℕ) → (((((a ++ b) ++ c) ++ d) ++ e) ++ f) ++ g ≡ a ++ (b ++ c ++ d ++ e ++ f ++ g)
six a b c d e f g = simp append_assoc

pub line_put : (has_journal : Bool) (change : Change) (old what name blank day seats new date : List ℕ)
    → what ≡ old ++ what_text change.what → name ≡ what ++ designator_text change.name → blank ≡ name ++ codes " "
    → IsDateText change.name.day date → day ≡ blank ++ date → seats ≡ day ++ seats_text has_journal change → new ≡ seats ++ 10 ∷ []
    → IsPutBehind (IsChangeLine has_journal change) old new
line_put has_journal change old what name blank day seats new date a b c is_date d e f = record {
  part = what_text change.what ++ designator_text change.name ++ codes " " ++ date ++ seats_text has_journal change ++ 10 ∷ [];
  is_part = record { day = date; is_day = is_date; written = refl };
  written =
      f ∙ ap (λ (l : List ℕ). l ++ 10 ∷ []) (e ∙ ap (λ (l : List ℕ). l ++ seats_text has_journal change) (d ∙ ap (λ (l : List ℕ). l ++ date)
      (c ∙ ap (λ (l : List ℕ). l ++ codes " ") (b ∙ ap (λ (l : List ℕ). l ++ designator_text change.name) a))))
      ∙ six old (what_text change.what) (designator_text change.name) (codes " ") date (seats_text has_journal change) (10 ∷ []);
}

pub line_more : (has_journal : Bool) (i : ℕ) (all : List Change) (change : Change) (old mid new : List ℕ)
    → IsPut (λ n. IsChangePart has_journal) 0 (take i all) old mid → i < length all → change ≡ get_or all i change
    → IsPutBehind (IsChangePart has_journal change) mid new → IsPut (λ n. IsChangePart has_journal) 0 (take (i + 1) all) old new
line_more has_journal i all change old mid new before inside here put =
    put_more (λ n. IsChangePart has_journal) 0 i all change old mid new put.part before inside here put.is_part put.written
