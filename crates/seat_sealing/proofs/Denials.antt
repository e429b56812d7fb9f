-- In each of the three steps the seal has the journal's entry.
use Rattle.std.proofs.Common.{◌≡◌, ◌⊎◌, inl, inr, ℕ, Bool, true, false, List, ◌++◌, Some, refl, sym, subst}
use Rattle.airline_base.proofs.Tests.{both_are, both_true}
use Rattle.seat_seal.specs.declared.seal.Sealed.{Sealed as Belonging}
use Rattle.seat_seal.specs.declared.seal.SealEntry.{SealEntry}
use Rattle.seat_seal.specs.declared.seal.SealEntry.TheVariants.{Sealed}
use Rattle.seat_seal.specs.declared.seal.JournalState.TheVariants.{Open}
use Rattle.seat_seal.proofs.Fitting.{begins_so}
use Rattle.seat_seal.specs.Comparing.{entry_for, is_its_journal}
use Rattle.seat_seal.specs.Imprints.{imprint_of}
use Rattle.seat_seal.specs.Reading.{one_entry, two_entries}
use Rattle.seat_seal.specs.Rules.{HasDigests, HasTypes, IsSeal, is_entry, is_seal, is_sealed}
use Rattle.seat_disk.specs.Leaving.{Only}
use Rattle.seat_seal.specs.Fronts.{front_of}
use Rattle.seat_sealing.specs.Laws.{AreEntriesOf}
use Rattle.seat_sealing.specs.Pairs.{HasEntry, IsEntryOf, Names, NamesEach, NoneDenied, NoneDeniedSince}
use Rattle.seat_sealing.specs.Steps.{InOrder, IsClosing, IsReplacing, IsSealing, alone_text, both_text}
use Rattle.seat_sealing.proofs.Known.{sealed_is_its}

-- ---- the seals

rules_alone : (older : SealEntry) (newer : Belonging) → is_seal (two_entries older (Sealed newer)) ≡ true
    → is_seal (one_entry (Sealed newer)) ≡ true
unfolding is_seal
rules_alone older newer rules = both_are (is_sealed newer) true (both_true (is_entry older) (is_sealed newer) rules).1 refl

is_alone : (older : SealEntry) (newer : Belonging) → IsSeal (two_entries older (Sealed newer)) → IsSeal (one_entry (Sealed newer))
is_alone older newer is = record { first = is.second; second = tt; rules = rules_alone older newer is.rules }

pub are_both : (older : SealEntry) (newer : Belonging) → HasTypes older → HasDigests newer
    → is_seal (two_entries older (Sealed newer)) ≡ true → IsSeal (two_entries older (Sealed newer))
are_both older newer first second rules = record { first = first; second = second; rules = rules }

-- ---- which entry is found

first_found : (older : SealEntry) (newer : Belonging) (journal : List ℕ) → is_its_journal older journal ≡ true
    → entry_for (two_entries older (Sealed newer)) journal ≡ Some older
first_found older newer journal its = rw its refl

second_found : (older : SealEntry) (newer : Belonging) (journal : List ℕ) → is_its_journal older journal ≡ false
    → is_its_journal (Sealed newer) journal ≡ true
    → entry_for (two_entries older (Sealed newer)) journal ≡ Some (Sealed newer)
second_found older newer journal other its = rw (other, its) refl

one_found : (newer : Belonging) (journal : List ℕ) → is_its_journal (Sealed newer) journal ≡ true
    → entry_for (one_entry (Sealed newer)) journal ≡ Some (Sealed newer)
one_found newer journal its = rw its refl

-- ---- pairs

pub has_older : (older : SealEntry) (newer : Belonging) (journal : List ℕ) → IsSeal (two_entries older (Sealed newer))
    → is_its_journal older journal ≡ true
    → HasEntry (both_text older newer) journal
has_older older newer journal is its = record {
  said = two_entries older (Sealed newer);
  is = is;
  text = refl;
  entry = older;
  found = first_found older newer journal its;
}

has_second : (older : SealEntry) (newer : Belonging) (journal : List ℕ) → IsSeal (two_entries older (Sealed newer))
    → is_its_journal older journal ≡ false
    → newer.journal.imprint ≡ imprint_of (front_of journal) → HasEntry (both_text older newer) journal
has_second older newer journal is other same = record {
  said = two_entries older (Sealed newer);
  is = is;
  text = refl;
  entry = Sealed newer;
  found = second_found older newer journal other (sealed_is_its newer journal same);
}

has_newer : (older : SealEntry) (newer : Belonging) (journal : List ℕ) → IsSeal (two_entries older (Sealed newer))
    → newer.journal.imprint ≡ imprint_of (front_of journal) → HasEntry (both_text older newer) journal
has_newer older newer journal is same =
    cases (is_its_journal older journal) refl
  where
    cases : (b : Bool) → is_its_journal older journal ≡ b
        → HasEntry (both_text older newer) journal
    cases true its = has_older older newer journal is its
    cases false other = has_second older newer journal is other same

has_alone : (older : SealEntry) (newer : Belonging) (journal : List ℕ) → IsSeal (two_entries older (Sealed newer))
    → newer.journal.imprint ≡ imprint_of (front_of journal) → HasEntry (alone_text newer) journal
has_alone older newer journal is same = record {
  said = one_entry (Sealed newer);
  is = is_alone older newer is;
  text = refl;
  entry = Sealed newer;
  found = one_found newer journal (sealed_is_its newer journal same);
}

pub both_name : (older : SealEntry) (newer : Belonging) → HasTypes older → HasDigests newer
    → is_seal (two_entries older (Sealed newer)) ≡ true → Names (both_text older newer) newer.journal.imprint
both_name older newer first second rules =
    record { each = λ journal same. has_newer older newer journal (are_both older newer first second rules) same }

-- where the older one is open, in each journal that begins with it
pub both_name_each : (older : SealEntry) (newer : Belonging) → HasTypes older → HasDigests newer
    → is_seal (two_entries older (Sealed newer)) ≡ true → (entry : Belonging) (begun : List ℕ) → older ≡ Sealed entry
    → entry.journal.state ≡ Open → entry.journal.imprint ≡ imprint_of begun → NamesEach (both_text older newer) begun
both_name_each older newer first second rules entry begun is is_open same = record {
  each = λ more. has_older older newer (begun ++ more) (are_both older newer first second rules)
      (subst (λ (x : SealEntry). is_its_journal x (begun ++ more) ≡ true) (sym is) (begins_so entry.journal begun more is_open same));
}

pub alone_names : (older : SealEntry) (newer : Belonging) → HasTypes older → HasDigests newer
    → is_seal (two_entries older (Sealed newer)) ≡ true → Names (alone_text newer) newer.journal.imprint
alone_names older newer first second rules =
    record { each = λ journal same. has_alone older newer journal (are_both older newer first second rules) same }

-- ---- a seal of one entry

alone_seal : (entry : Belonging) → HasDigests entry → is_sealed entry ≡ true → IsSeal (one_entry (Sealed entry))
unfolding is_seal
alone_seal entry types rules = record { first = types; second = tt; rules = both_are (is_sealed entry) true rules refl }

alone_has : (entry : Belonging) (journal : List ℕ) → IsSeal (one_entry (Sealed entry)) → is_its_journal (Sealed entry) journal ≡ true
    → HasEntry (alone_text entry) journal
alone_has entry journal is its = record {
  said = one_entry (Sealed entry);
  is = is;
  text = refl;
  entry = Sealed entry;
  found = one_found entry journal its;
}

pub one_names : (entry : Belonging) → HasDigests entry → is_sealed entry ≡ true → Names (alone_text entry) entry.journal.imprint
one_names entry types rules = record {
  each = λ journal same. alone_has entry journal (alone_seal entry types rules) (sealed_is_its entry journal same);
}

pub one_names_each : (entry : Belonging) → HasDigests entry → is_sealed entry ≡ true → (begun : List ℕ)
    → entry.journal.state ≡ Open → entry.journal.imprint ≡ imprint_of begun → NamesEach (alone_text entry) begun
one_names_each entry types rules begun is_open same = record {
  each = λ more. alone_has entry (begun ++ more) (alone_seal entry types rules) (begins_so entry.journal begun more is_open same);
}

-- ---- steps

module _ (older : SealEntry) (newer : Belonging) (text : List ℕ)
    (journals_old seals_old journals_new seals_new : List ℕ → Type 0)
    (is : IsSeal (two_entries older (Sealed newer))) (its : IsEntryOf older journals_old)
    (same : newer.journal.imprint ≡ imprint_of (front_of text)) where
  by_seal : (journal seal : List ℕ) → seal ≡ both_text older newer → HasEntry (both_text older newer) journal
      → HasEntry seal journal
  by_seal journal seal e has = subst (λ (s : List ℕ). HasEntry s journal) (sym e) has

  by_both : (seal journal other : List ℕ) → journal ≡ other → HasEntry seal other → HasEntry seal journal
  by_both seal journal other e has = subst (HasEntry seal) (sym e) has

  in_sealing : IsSealing (both_text older newer) journals_old seals_old journals_new seals_new
      → (journal seal : List ℕ) → journals_new journal → seals_new seal
      → HasEntry seal journal ⊎ (journals_old journal × seals_old seal)
  in_sealing step journal seal left stands = pick (step.seal seal stands)
    where
      pick : seals_old seal ⊎ (seal ≡ both_text older newer) → HasEntry seal journal ⊎ (journals_old journal × seals_old seal)
      pick (inl before) = inr (step.journal journal left, before)
      pick (inr e) = inl (by_seal journal seal e (has_older older newer journal is (its.each journal (step.journal journal left))))

  in_replacing : IsReplacing (both_text older newer) text journals_old journals_new seals_new
      → (journal seal : List ℕ) → journals_new journal → seals_new seal → HasEntry seal journal
  in_replacing step journal seal left stands = by_seal journal seal (step.seal seal stands) (pick (step.journal journal left))
    where
      pick : journals_old journal ⊎ (journal ≡ text) → HasEntry (both_text older newer) journal
      pick (inl before) = has_older older newer journal is (its.each journal before)
      pick (inr e) = by_both (both_text older newer) journal text e (has_newer older newer text is same)

  in_closing : IsClosing (both_text older newer) text (alone_text newer) journals_new seals_new
      → (journal seal : List ℕ) → journals_new journal → seals_new seal → HasEntry seal journal
  in_closing step journal seal left stands = by_both seal journal text (step.journal journal left) (pick (step.seal seal stands))
    where
      pick : (seal ≡ both_text older newer) ⊎ (seal ≡ alone_text newer) → HasEntry seal text
      pick (inl e) = by_seal text seal e (has_newer older newer text is same)
      pick (inr e) = subst (λ (s : List ℕ). HasEntry s text) (sym e) (has_alone older newer text is same)

  none_since : InOrder (both_text older newer) text (alone_text newer) journals_old seals_old journals_new seals_new
      → NoneDeniedSince journals_old seals_old journals_new seals_new
  none_since order = pick order.step
    where
      pick : IsSealing (both_text older newer) journals_old seals_old journals_new seals_new
          ⊎ (IsReplacing (both_text older newer) text journals_old journals_new seals_new
          ⊎ IsClosing (both_text older newer) text (alone_text newer) journals_new seals_new)
          → NoneDeniedSince journals_old seals_old journals_new seals_new
      pick (inl step) = record { each = in_sealing step }
      pick (inr (inl step)) = record { each = λ journal seal left stands. inl (in_replacing step journal seal left stands) }
      pick (inr (inr step)) = record { each = λ journal seal left stands. inl (in_closing step journal seal left stands) }

pub no_crash_denies : (older : SealEntry) (newer : Belonging) (text : List ℕ)
    (journals_old seals_old journals_new seals_new : List ℕ → Type 0) → AreEntriesOf older newer journals_old text
    → InOrder (both_text older newer) text (alone_text newer) journals_old seals_old journals_new seals_new
    → NoneDeniedSince journals_old seals_old journals_new seals_new
no_crash_denies older newer text journals_old seals_old journals_new seals_new are order =
    none_since older newer text journals_old seals_old journals_new seals_new are.is are.older_is are.newer_is order

pub none_denied_since : (older : SealEntry) (newer : Belonging) (text : List ℕ)
    (journals_old seals_old journals_new seals_new : List ℕ → Type 0) → HasTypes older → HasDigests newer
    → is_seal (two_entries older (Sealed newer)) ≡ true → newer.journal.imprint ≡ imprint_of (front_of text)
    → InOrder (both_text older newer) text (alone_text newer) journals_old seals_old journals_new seals_new
    → IsEntryOf older journals_old → NoneDeniedSince journals_old seals_old journals_new seals_new
none_denied_since older newer text journals_old seals_old journals_new seals_new first second rules same order its =
    none_since older newer text journals_old seals_old journals_new seals_new (are_both older newer first second rules) its same order

-- where none was denied before, none is
none_denied : (journals_old seals_old journals_new seals_new : List ℕ → Type 0)
    → NoneDeniedSince journals_old seals_old journals_new seals_new → NoneDenied journals_old seals_old
    → NoneDenied journals_new seals_new
none_denied journals_old seals_old journals_new seals_new since before = record {
  each = λ journal seal left stands. pick journal seal (since.each journal seal left stands);
}
  where
    pick : (journal seal : List ℕ) → HasEntry seal journal ⊎ (journals_old journal × seals_old seal) → HasEntry seal journal
    pick journal seal (inl has) = has
    pick journal seal (inr pair) = before.each journal seal pair.0 pair.1

pub still_none : (older : SealEntry) (newer : Belonging) (text : List ℕ)
    (journals_old seals_old journals_new seals_new : List ℕ → Type 0) → HasTypes older → HasDigests newer
    → is_seal (two_entries older (Sealed newer)) ≡ true → newer.journal.imprint ≡ imprint_of (front_of text)
    → InOrder (both_text older newer) text (alone_text newer) journals_old seals_old journals_new seals_new
    → IsEntryOf older journals_old → NoneDenied journals_old seals_old → NoneDenied journals_new seals_new
still_none older newer text journals_old seals_old journals_new seals_new first second rules same order its before =
    none_denied journals_old seals_old journals_new seals_new
    (none_denied_since older newer text journals_old seals_old journals_new seals_new first second rules same order its) before

-- the new journal and its seal
pub settled : (older : SealEntry) (newer : Belonging) (text : List ℕ) (journals seals : List ℕ → Type 0) → HasTypes older
    → HasDigests newer → is_seal (two_entries older (Sealed newer)) ≡ true
    → newer.journal.imprint ≡ imprint_of (front_of text) → Only text journals → Only (alone_text newer) seals
    → NoneDenied journals seals
settled older newer text journals seals first second rules same journal seal = record {
  each = λ c s left stands.
      subst (HasEntry s) (sym (journal c left)) (subst (λ (t : List ℕ). HasEntry t text) (sym (seal s stands))
      (has_alone older newer text (are_both older newer first second rules) same));
}
