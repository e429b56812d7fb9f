-- The seals of a journal that is ended.
use Rattle.std.proofs.Common.{◌≡◌, ℕ, ◌<◌, ◌++◌, Bool, true, false, nat_lt, List, [], ◌∷◌, length, take, ap, refl, sym, subst, ◌∙◌, arith, append-nil}
use Rattle.std.specs.Prelude.{◌&&◌}
use Rattle.std.proofs.Math.Bool.{or-false}
use Rattle.std.proofs.lemmas.Bool.Decides.{nat_tests}
use Rattle.seat_journal.specs.declared.entry.Entry.{Entry}
use Rattle.seat_rules.specs.Inventory.{Inventory}
use Rattle.seat_recovery.specs.declared.rest.Rest.{Rest}
use Rattle.seat_recovery.specs.declared.rest.Rest.TheVariants as rests
use Rattle.seat_recovery.specs.OpenText.{open_text}
use Rattle.seat_seal.specs.Booked.{begins_with, is_booked}
use Rattle.seat_seal.specs.Comparing.{same_imprint}
use Rattle.seat_seal.specs.Imprints.{imprint_of}
use Rattle.seat_seal.specs.Known.{IsEraOf}
use Rattle.seat_seal.specs.Reading.{two_entries}
use Rattle.seat_seal.specs.Rules.{is_seal}
use Rattle.seat_seal.specs.declared.beside.Basis.{Basis}
use Rattle.seat_seal.specs.declared.beside.Beside.{Beside}
use Rattle.seat_seal.specs.declared.era.Era.{Era}
use Rattle.seat_seal.specs.declared.imprint.Imprint.{Imprint}
use Rattle.seat_seal.specs.declared.run.Run.{Run}
use Rattle.seat_seal.specs.declared.seal.JournalState.{JournalState}
use Rattle.seat_seal.specs.declared.seal.JournalState.TheVariants.{Open, Closed}
use Rattle.seat_seal.specs.Closing.{IsEntryIn}
use Rattle.seat_seal.specs.declared.seal.Sealed.{Sealed as Belonging}
use Rattle.seat_seal.specs.declared.seal.SealEntry.TheVariants.{Sealed}
use Rattle.seat_sealing.specs.Pairs.{Names, NamesEach}
use Rattle.seat_sealing.specs.Steps.{alone_text, both_text}
use Rattle.seat_serving.specs.GoingOn.{IsFoundIn, head_for}
use Rattle.seat_serving.proofs.Recovering.{whole}
use Rattle.seat_restoring.specs.Sealing.{AreEntries, AreRunsOver, AreSeals, AreUnsealable, IsEntryOver}

lines_are : (core : Inventory) (file lines head : List ℕ) (len : ℕ) (rest : Rest) → IsFoundIn core file len rest
    → lines ≡ take len file → head ≡ head_for rest → lines ++ head ≡ open_text core.journal
lines_are core file lines head len rest found is_lines is_head =
    ap (λ (t : List ℕ). t ++ head) is_lines ∙ ap (λ (t : List ℕ). take len file ++ t) is_head
    ∙ whole core.grid core.cap file core.journal len rest found.stands

empty_head : (head : List ℕ) → length head ≡ 0 → head ≡ []
empty_head [] e = refl
empty_head (c ∷ head) e = absurd (cc e)

-- the lines are the text, where no head is to be written
pub text_is_lines : (core : Inventory) (file lines head : List ℕ) (len : ℕ) (rest : Rest) → IsFoundIn core file len rest
    → lines ≡ take len file → head ≡ head_for rest → length head ≡ 0 → lines ≡ open_text core.journal
text_is_lines core file lines head len rest found is_lines is_head none =
    sym (append-nil lines) ∙ ap (λ (t : List ℕ). lines ++ t) (sym (empty_head head none)) ∙ lines_are core file lines head len rest found is_lines is_head

some_head : (core : Inventory) (file : List ℕ) (len : ℕ) (rest : Rest) → IsFoundIn core file len rest → 0 < length (head_for rest)
    → take len file ≡ []
some_head core file len rests.NoHead found some = ap (λ (n : ℕ). take n file) found.stands.1
some_head core file len rests.Whole found some = absurd (omega (arith, some))
some_head core file len rests.Closed found some = absurd (omega (arith, some))
some_head core file len rests.Torn found some = absurd (omega (arith, some))
some_head core file len (rests.Damaged d) found some = absurd (omega (arith, some))

-- and where there was none it is
pub text_is_head : (core : Inventory) (file head : List ℕ) (len : ℕ) (rest : Rest) → IsFoundIn core file len rest
    → head ≡ head_for rest → 0 < length head → head ≡ open_text core.journal
text_is_head core file head len rest found is_head some =
    let none : take len file ≡ [] = some_head core file len rest found (subst (λ (h : List ℕ). 0 < length h) is_head some) in
    ap (λ (t : List ℕ). t ++ head) (sym none) ∙ lines_are core file (take len file) head len rest found refl is_head

-- a text begins with what was sealed, of which there is a byte, where it does so with the one imprint
pub begins_by : (i : Imprint) (text : List ℕ) (r : Bool) → (i.bytes ≡ 0 → ⊥) → r ≡ is_booked (i ∷ []) text
    → r ≡ same_imprint i (imprint_of (take i.bytes text))
begins_by i text r some is =
    let lt : nat_lt 0 i.bytes ≡ true = grind (arith, nat_tests, some) in
    is ∙ or-false (begins_with text i) ∙ ap (λ (b : Bool). b && same_imprint i (imprint_of (take i.bytes text))) lt

pub over : (state : JournalState) (beside : Beside) (basis : Basis) (file : List ℕ) (journal : List Entry) (imprint : Imprint) (lines : ℕ)
    (runs : List Run) (entry : Belonging) → imprint ≡ imprint_of (open_text journal) → lines ≡ length journal
    → AreRunsOver beside file lines runs → IsEntryIn state basis imprint lines runs entry
    → IsEntryOver state beside basis file (imprint_of (open_text journal)) (length journal) entry
over state beside basis file journal imprint lines runs entry of_lines count are is =
    subst (λ (i : Imprint). IsEntryOver state beside basis file i (length journal) entry) of_lines
    (subst (λ (n : ℕ). IsEntryOver state beside basis file imprint n entry) count (record { runs = runs; are_runs = are; is = is }))

module _ (beside : Beside) (basis : Basis) (file : List ℕ) (journal : List Entry) (imprint : Imprint) (lines : ℕ)
    (runs more : List Run) (older newer : Belonging) (of_lines : imprint ≡ imprint_of (open_text journal)) (count : lines ≡ length journal)
    (are : AreRunsOver beside file lines runs) (is_newer : IsEntryIn Closed basis imprint lines runs newer)
    (are_too : AreRunsOver beside file lines more) (is_older : IsEntryIn Open basis imprint lines more older)
    (era : Era) (is_era : IsEraOf beside file era) (of_newer : newer.era ≡ era) (of_older : older.era ≡ era) where
  are_entries : AreEntries beside basis file journal older newer
  are_entries = record {
    is_older = over Open beside basis file journal imprint lines more older of_lines count are_too is_older;
    is_newer = over Closed beside basis file journal imprint lines runs newer of_lines count are is_newer;
    older_era = subst (λ (e : Era). IsEraOf beside file e) (sym of_older) is_era;
    newer_era = subst (λ (e : Era). IsEraOf beside file e) (sym of_newer) is_era;
  }

  pub are_seals : (both alone : List ℕ) → both ≡ both_text (Sealed older) newer → alone ≡ alone_text newer
      → Names (both_text (Sealed older) newer) newer.journal.imprint
      → ((entry : Belonging) (begun : List ℕ) → Sealed older ≡ Sealed entry → entry.journal.state ≡ Open
      → entry.journal.imprint ≡ imprint_of begun → NamesEach (both_text (Sealed older) newer) begun)
      → Names (alone_text newer) newer.journal.imprint
      → AreSeals beside basis file journal both alone
  are_seals both alone both_is alone_is first each last = record {
    older = older;
    newer = newer;
    entries = are_entries;
    both_is = both_is;
    alone_is = alone_is;
    first = names both (both_text (Sealed older) newer) both_is first;
    each = subst (λ (t : List ℕ). NamesEach t (open_text journal)) (sym both_is)
        (each older (open_text journal) refl are_entries.is_older.is.state_is are_entries.is_older.is.imprint_is);
    last = names alone (alone_text newer) alone_is last;
  }
    where
      names : (text other : List ℕ) → text ≡ other → Names other newer.journal.imprint → Names text (imprint_of (open_text journal))
      names text other is named =
          subst (λ (p : List ℕ × Imprint). Names p.0 p.1) (λ i. (sym is i, are_entries.is_newer.is.imprint_is i)) named

  pub are_unsealable : is_seal (two_entries (Sealed older) (Sealed newer)) ≡ false → AreUnsealable beside basis file journal
  are_unsealable broken = record {
    older = older;
    newer = newer;
    entries = are_entries;
    broken = broken;
  }
