-- Laws of the definitions.
use Rattle.std.specs.Prelude.{◌≡◌, ℕ, ◌++◌, List}
use Rattle.std.specs.List.{flat_map}
use Rattle.seat_journal.specs.declared.entry.Entry.{Entry}
use Rattle.seat_journal.specs.Text.{entry_text, head_text, journal_text, old_head_text, old_text}
use Rattle.seat_seal.specs.declared.seal.Sealed.{Sealed as Belonging}
use Rattle.seat_seal.specs.declared.seal.SealEntry.{SealEntry}
use Rattle.seat_seal.specs.declared.seal.SealEntry.TheVariants.{Sealed}
use Rattle.seat_seal.specs.Imprints.{imprint_of}
use Rattle.seat_seal.specs.Reading.{two_entries}
use Rattle.seat_seal.specs.Rules.{IsSeal}
use Rattle.seat_seal.specs.Fronts.{front_of}
use Rattle.seat_sealing.specs.Pairs.{IsEntryOf, NoneDeniedSince}
use Rattle.seat_sealing.specs.Steps.{InOrder, both_text, alone_text}

-- of a journal of either version, what stands ahead of its END line is its head and its entries
pub record EndIsLast (entries : List Entry) : Type 0 where
  pub new : front_of (journal_text entries) ≡ head_text ++ flat_map entry_text entries
  pub old : front_of (old_text entries) ≡ old_head_text ++ flat_map entry_text entries

-- two entries that a seal may have, of an older journal and of the newer one with this text
pub record AreEntriesOf (older : SealEntry) (newer : Belonging) (journals_old : List ℕ → Type 0) (text : List ℕ) : Type 0
  where
    pub is : IsSeal (two_entries older (Sealed newer))
    pub older_is : IsEntryOf older journals_old
    pub newer_is : newer.journal.imprint ≡ imprint_of (front_of text)

-- in whichever of the three steps a crash comes
abbrev pub NoCrashDenies : SealEntry → Belonging → List ℕ → (List ℕ → Type 0) → (List ℕ → Type 0) → (List ℕ → Type 0)
    → (List ℕ → Type 0) → Type 0
NoCrashDenies older newer text journals_old seals_old journals_new seals_new =
    AreEntriesOf older newer journals_old text
    → InOrder (both_text older newer) text (alone_text newer) journals_old seals_old journals_new seals_new
    → NoneDeniedSince journals_old seals_old journals_new seals_new
