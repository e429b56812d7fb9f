-- A journal's own entry with the mark keeps the rules of one, and its seal says that the bookings were carried.
use Rattle.std.proofs.Common.{◌≡◌, ℕ, Bool, true, ◌&&◌, List, ◌++◌, Some, refl, subst, sym, ◌∙◌}
use Rattle.std.specs.Prelude.{nat_le, length}
use Rattle.std.specs.List.{list_all}
use Rattle.airline_base.proofs.Tests.{both_are, both_true}
use Rattle.seat_disk.specs.Leaving.{Only}
use Rattle.seat_seal.proofs.Fitting.{begins_so, is_itself}
use Rattle.seat_seal.specs.Comparing.{entry_for, is_its_journal}
use Rattle.seat_seal.specs.Dates.{is_date}
use Rattle.seat_seal.specs.Fronts.{front_of}
use Rattle.seat_seal.specs.Imprints.{imprint_of}
use Rattle.seat_seal.specs.Reading.{one_entry, two_entries}
use Rattle.seat_seal.specs.Rules.{HasDigests, IsSeal, is_entry, is_era, is_imprint, is_journal, is_run, is_seal, is_sealed, is_today}
use Rattle.seat_seal.specs.Text.{most_runs}
use Rattle.seat_seal.specs.declared.imprint.Imprint.{Imprint}
use Rattle.seat_seal.specs.declared.seal.Sealed.{Sealed as Belonging}
use Rattle.seat_seal.specs.declared.seal.SealEntry.{SealEntry}
use Rattle.seat_seal.specs.declared.seal.SealEntry.TheVariants.{Sealed}
use Rattle.seat_seal.specs.declared.seal.JournalState.TheVariants.{Open}
use Rattle.seat_sealing.specs.Pairs.{HasEntry, Names, NamesEach, NoneDenied}
use Rattle.seat_sealing.specs.Steps.{alone_text}
use Rattle.seat_handing.specs.Marking.{SaysCarried, mark_text, marked}

-- the tests of an entry: of those but the era's, of the era but its mark, and of the mark
with_mark : (days journal era mark other few each : Bool) → (days && journal && (era && mark) && few && each) ≡ true → other ≡ true
    → (days && journal && (era && other) && few && each) ≡ true
with_mark days journal era mark other few each is mine =
    let a = both_true (days && journal && (era && mark) && few) each is in
    let b = both_true (days && journal && (era && mark)) few a.0 in
    let c = both_true (days && journal) (era && mark) b.0 in
    let d = both_true era mark c.1 in
    both_are (days && journal && (era && other) && few) each
    (both_are (days && journal && (era && other)) few
    (both_are (days && journal) (era && other) c.0 (both_are era other d.0 mine)) b.1) a.1

may_be : (known : Belonging) (imprint : Imprint) → is_sealed known ≡ true → is_imprint imprint ≡ true → is_sealed (marked known imprint) ≡ true
unfolding is_sealed
may_be known imprint is mine =
    with_mark (is_date known.first && nat_le 1 known.days && nat_le known.days 366) (is_journal known.journal)
    (nat_le 1 known.era.epoch && nat_le known.era.epoch 999_999 && is_today known.era.today) _ (is_imprint imprint)
    (nat_le (length known.runs) most_runs) (list_all (is_run known.journal.lines) known.runs) is mine

alone : (entry : Belonging) → is_sealed entry ≡ true → HasDigests entry → IsSeal (one_entry (Sealed entry))
unfolding is_seal
alone entry is types = record { first = types; second = tt; rules = both_are (is_sealed entry) true is refl }

pub says_carried : (known : Belonging) (mark : Imprint) → is_sealed known ≡ true → is_imprint mark ≡ true
    → HasDigests (marked known mark) → SaysCarried mark (mark_text known mark)
says_carried known mark is mine types = record {
  entry = marked known mark;
  is_seal = alone (marked known mark) (may_be known mark is mine) types;
  is_text = refl;
  carried = refl;
}

-- ---- it is the seal of the older journal still

found : (entry : Belonging) (journal : List ℕ) → is_its_journal (Sealed entry) journal ≡ true
    → entry_for (one_entry (Sealed entry)) journal ≡ Some (Sealed entry)
found entry journal its = rw its refl

has : (entry : Belonging) (journal : List ℕ) → IsSeal (one_entry (Sealed entry)) → is_its_journal (Sealed entry) journal ≡ true
    → HasEntry (alone_text entry) journal
has entry journal is its =
    record { said = one_entry (Sealed entry); is = is; text = refl; entry = Sealed entry; found = found entry journal its }

module _ (known : Belonging) (mark : Imprint) (is : is_sealed known ≡ true) (mine : is_imprint mark ≡ true) (types : HasDigests (marked known mark)) where
  its : (journal : List ℕ) → is_its_journal (Sealed (marked known mark)) journal ≡ true
      → HasEntry (mark_text known mark) journal
  its journal fits =
      has (marked known mark) journal (alone (marked known mark) (may_be known mark is mine) types) fits

  pub names : Names (mark_text known mark) known.journal.imprint
  names = record { each = λ journal same. its journal (is_itself known.journal journal same) }

  pub names_each : (begun : List ℕ) → known.journal.state ≡ Open → known.journal.imprint ≡ imprint_of begun
      → NamesEach (mark_text known mark) begun
  names_each begun is_open same = record { each = λ more. its (begun ++ more) (begins_so known.journal begun more is_open same) }

-- ---- the newer journal and its seal alone

pub denied_by_none : (newer : Belonging) (text alone : List ℕ) (journals seals : List ℕ → Type 0) → alone ≡ alone_text newer
    → Names (alone_text newer) newer.journal.imprint → newer.journal.imprint ≡ imprint_of (front_of text) → Only text journals → Only alone seals
    → NoneDenied journals seals
denied_by_none newer text alone journals seals is named same journal seal = record {
  each = λ c s left stands.
      subst (HasEntry s) (sym (journal c left))
      (subst (λ (t : List ℕ). HasEntry t text) (sym (seal s stands ∙ is)) (named.each text same));
}
