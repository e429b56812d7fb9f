-- The entry that the text beside a journal has of it.
use Rattle.std.proofs.Common.{◌≡◌, ℕ, true, List, Option, Some, None, IfSome}
use Rattle.airline_base.proofs.Tests.{none_some}
use Rattle.seat_seal.specs.declared.imprint.Imprint.{Imprint}
use Rattle.seat_seal.specs.declared.seal.Seal.{Seal}
use Rattle.seat_seal.specs.declared.seal.SealEntry.{SealEntry}
use Rattle.seat_seal.specs.declared.seal.Sealed.{Sealed as Belonging}
use Rattle.seat_seal.specs.declared.seal.SealEntry.TheVariants.{Sealed, Other}
use Rattle.seat_seal.specs.Comparing.{is_its_journal}
use Rattle.seat_seal.specs.Fronts.{front_of}
use Rattle.seat_seal.specs.Imprints.{imprint_of}
use Rattle.seat_seal.specs.Rules.{IsSeal}
use Rattle.seat_seal.specs.Text.{seal_text}
use Rattle.seat_seal.proofs.Fitting.{is_itself, same_is}
use Rattle.seat_sealing.specs.Older.{IsEntryBeside, IsSealIn, older_entry}

pub other_is_its : (whole : Imprint) (journal : List ℕ) → whole ≡ imprint_of journal → is_its_journal (Other whole) journal ≡ true
other_is_its whole journal same = same_is whole (imprint_of journal) same

pub sealed_is_its : (s : Belonging) (journal : List ℕ) → s.journal.imprint ≡ imprint_of (front_of journal)
    → is_its_journal (Sealed s) journal ≡ true
sealed_is_its s journal same = is_itself s.journal journal same

-- what is read is the seal in the text
pub read_in : (text : List ℕ) (read : Option Seal) → IfSome read (λ seal. IsSeal seal × (text ≡ seal_text seal))
    → ((seal : Seal) → IsSeal seal → text ≡ seal_text seal → read ≡ Some seal) → IsSealIn (Some text) read
read_in text None found only = λ seal is same. none_some seal (only seal is same)
read_in text (Some seal) found only = found

pub beside : (text : Option (List ℕ)) (journal : List ℕ) (seal : Option Seal) (entry : SealEntry)
    → IsSealIn text seal → entry ≡ older_entry seal journal → IsEntryBeside text journal entry
beside text journal seal entry is_in is = record { seal = seal; is_in = is_in; entry_is = is }
