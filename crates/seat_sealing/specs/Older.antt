-- The entry of a journal that is to be replaced.
use Rattle.std.specs.Prelude.{◌≡◌, ℕ, List, Option, Some, None}
use Rattle.seat_seal.specs.declared.imprint.Imprint.{Imprint}
use Rattle.seat_seal.specs.declared.seal.Seal.{Seal}
use Rattle.seat_seal.specs.declared.seal.SealEntry.{SealEntry}
use Rattle.seat_seal.specs.declared.seal.SealEntry.TheVariants.{Other}
use Rattle.seat_seal.specs.Comparing.{entry_for}
use Rattle.seat_seal.specs.Imprints.{imprint_of}
use Rattle.seat_seal.specs.Rules.{IsSeal}
use Rattle.seat_seal.specs.Text.{seal_text}

-- what is known of it, or that nothing is
abbrev pub entry_or_other : Option SealEntry → Imprint → SealEntry
entry_or_other None whole = Other whole
entry_or_other (Some entry) whole = entry

-- the entry that the seal has of it; where there is no seal, or none of its entries is, that of a journal of which nothing is known
abbrev pub older_entry : Option Seal → List ℕ → SealEntry
older_entry None journal = Other (imprint_of journal)
older_entry (Some seal) journal = entry_or_other (entry_for seal journal) (imprint_of journal)

-- the seal of which this is the text, if there is a text and it is one of a seal
abbrev pub IsSealIn : Option (List ℕ) → Option Seal → Type 0
IsSealIn None seal = seal ≡ None
IsSealIn (Some text) None = (seal : Seal) → IsSeal seal → text ≡ seal_text seal → ⊥
IsSealIn (Some text) (Some seal) = IsSeal seal × (text ≡ seal_text seal)

-- the entry that the seal of this text has of a journal
pub record IsEntryBeside (text : Option (List ℕ)) (journal : List ℕ) (entry : SealEntry) : Type 0 where
  pub seal : Option Seal
  pub is_in : IsSealIn text seal
  pub entry_is : entry ≡ older_entry seal journal
