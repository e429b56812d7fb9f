-- A journal and the seal beside it, and what a crash may leave of both: of each file one of its outcomes, so each pair of them.
use Rattle.std.specs.Prelude.{◌≡◌, ◌⊎◌, ◌++◌, ℕ, IsTrue, List, Some}
use Rattle.seat_seal.specs.declared.imprint.Imprint.{Imprint}
use Rattle.seat_seal.specs.declared.seal.Seal.{Seal}
use Rattle.seat_seal.specs.declared.seal.SealEntry.{SealEntry}
use Rattle.seat_seal.specs.Comparing.{entry_for, is_its_journal}
use Rattle.seat_seal.specs.Imprints.{imprint_of}
use Rattle.seat_seal.specs.Rules.{IsSeal}
use Rattle.seat_seal.specs.Text.{seal_text}
use Rattle.seat_seal.specs.Fronts.{front_of}

-- the text is that of a seal, in which a reader finds the entry of this journal
pub record HasEntry (seal journal : List ℕ) : Type 0 where
  pub said : Seal
  pub is : IsSeal said
  pub text : seal ≡ seal_text said
  pub entry : SealEntry
  pub found : entry_for said journal ≡ Some entry

-- a reader finds in the seal the entry of each journal with this imprint of its head and entries
pub record Names (seal : List ℕ) (imprint : Imprint) : Type 0 where
  pub each : (journal : List ℕ) → imprint ≡ imprint_of (front_of journal) → HasEntry seal journal

-- a reader finds in the seal the entry of each journal that begins with these bytes
pub record NamesEach (seal begun : List ℕ) : Type 0 where
  pub each : (more : List ℕ) → HasEntry seal (begun ++ more)

-- the entry is that of whatever a crash leaves of the journal
pub record IsEntryOf (entry : SealEntry) (journals : List ℕ → Type 0) : Type 0 where
  pub each : (journal : List ℕ) → journals journal → IsTrue (is_its_journal entry journal)

-- whatever a crash leaves of both, the seal has the journal's entry
pub record NoneDenied (journals seals : List ℕ → Type 0) : Type 0 where
  pub each : (journal seal : List ℕ) → journals journal → seals seal → HasEntry seal journal

-- the same, but for a pair that a crash might have left before
pub record NoneDeniedSince (journals_old seals_old journals_new seals_new : List ℕ → Type 0) : Type 0 where
  pub each : (journal seal : List ℕ) → journals_new journal → seals_new seal
      → HasEntry seal journal ⊎ (journals_old journal × seals_old seal)
