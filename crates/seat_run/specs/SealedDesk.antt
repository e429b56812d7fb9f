-- What `run` writes: a journal, the seal of it, and the replies to its lines.
use Rattle.std.specs.Prelude.{◌≡◌, ◌+◌, ◌⊎◌, ℕ, false, List, length, Option}
use Rattle.seat_journal.specs.Text.{journal_text}
use Rattle.seat_journal.specs.declared.entry.Entry.{Entry}
use Rattle.seat_seal.specs.Known.{IsCarried}
use Rattle.seat_seal.specs.Rules.{is_sealed}
use Rattle.seat_seal.specs.declared.beside.Basis.{Basis}
use Rattle.seat_seal.specs.declared.beside.Beside.{Beside}
use Rattle.seat_seal.specs.declared.imprint.Imprint.{Imprint}
use Rattle.seat_seal.specs.declared.known.Carried.{Carried}
use Rattle.seat_seal.specs.declared.seal.Sealed.{Sealed as Belonging}
use Rattle.seat_seal.specs.declared.seal.SealEntry.{SealEntry}
use Rattle.seat_desk.specs.Loading.{Bytes}
use Rattle.seat_desk.specs.Sealing.{basis_of}
use Rattle.seat_desk.specs.declared.inputs.Inputs.{Inputs}
use Rattle.seat_scripts.specs.Against.{OfFour}
use Rattle.seat_replies.specs.Asked.{OfThree}
use Rattle.seat_scripts.specs.Resumed.{IsResumed}
use Rattle.seat_replies.specs.RunDesk.{IsRun}
use Rattle.seat_scripts.specs.Taken.{WithTaken}
use Rattle.seat_scripts.specs.SealedRun.{IsEntryOfRun}
use Rattle.seat_scripts.specs.TextImprints.{AreImprints, IsImprintOf}
use Rattle.seat_sealing.specs.Steps.{InOrder, alone_text, both_text}
use Rattle.seat_sealing.specs.Written.{AreInPlace, AreWritten, RepliesFailed, SealingFailed}

-- ---- the texts

-- the journal of these lines, an entry of it on that basis, and these replies
pub record AreTexts (basis : Basis) (imprints : List (Option Imprint)) (changes : Option Imprint) (behind today : ℕ)
    (earlier : Carried) (lines : List Entry) (said journal : List ℕ) (entry : Belonging) (replies : List ℕ) : Type 0 where
  pub journal_is : journal ≡ journal_text lines
  pub entry_is : IsEntryOfRun basis imprints changes behind (length lines) today earlier journal entry
  pub replies_are : replies ≡ said

-- ---- what is written

-- a journal, its seal and replies that answer are written, whole: both have their names, and a crash leaves nothing else of them
pub record AreSealed (answers : List ℕ → Belonging → List ℕ → Type 0)
    (journal_old journal_new seal_old seal_new : Option (List ℕ)) (journals seals : List ℕ → Type 0)
    (out_old out_new : Option (List ℕ)) : Type 0 where
  pub journal : List ℕ
  pub entry : Belonging
  pub replies : List ℕ
  pub right : answers journal entry replies
  pub are_written : AreWritten (AreInPlace journal (alone_text entry) journal_old journal_new seal_old seal_new journals seals)
      replies out_old out_new

-- a device failed as a journal, its seal and replies that answer were written: the journal or the seal in one of the three steps, of
-- which a crash leaves no more than the step says, or the replies behind both
pub record HasStopped {J K W : Type 0} (answers : List ℕ → Belonging → List ℕ → Type 0)
    (failures : J → ℕ) (named : J → Option (List ℕ)) (leaves : J → List ℕ → Type 0)
    (seal_failures : K → ℕ) (seal_named : K → Option (List ℕ)) (seal_leaves : K → List ℕ → Type 0)
    (out_failures : W → ℕ) (contents : W → Option (List ℕ)) (older : SealEntry)
    (journal_old journal_new : J) (seal_old seal_new : K) (out_old out_new : W) : Type 0 where
  pub journal : List ℕ
  pub entry : Belonging
  pub replies : List ℕ
  pub right : answers journal entry replies
  pub order : InOrder (both_text older entry) journal (alone_text entry) (leaves journal_old) (seal_leaves seal_old)
      (leaves journal_new) (seal_leaves seal_new)
  pub stopped : SealingFailed failures named seal_failures seal_named (both_text older entry) journal (alone_text entry)
      journal_old journal_new seal_old seal_new out_old out_new
      ⊎ RepliesFailed (AreInPlace journal (alone_text entry) (named journal_old) (named journal_new)
      (seal_named seal_old) (seal_named seal_new) (leaves journal_new) (seal_leaves seal_new))
      out_failures contents replies out_old out_new

-- a journal and replies that answer, but no seal may have its entry: it keeps not the rules of one
pub record IsUnsealable (answers : List ℕ → Belonging → List ℕ → Type 0) : Type 0 where
  pub journal : List ℕ
  pub entry : Belonging
  pub replies : List ℕ
  pub right : answers journal entry replies
  pub broken : is_sealed entry ≡ false

-- nothing was written: the journal, its seal and the output of the replies are as they were
pub record AreUntouched {J K W : Type 0} (journal_old journal_new : J) (seal_old seal_new : K) (out_old out_new : W) : Type 0
  where
    pub journal : journal_new ≡ journal_old
    pub seal : seal_new ≡ seal_old
    pub out : out_new ≡ out_old

-- an input failed, and nothing was written
pub record InputFailed {J K W : Type 0} (failed : Type 0) (journal_old journal_new : J) (seal_old seal_new : K)
    (out_old out_new : W) : Type 0 where
  pub counted : failed
  pub untouched : AreUntouched journal_old journal_new seal_old seal_new out_old out_new

-- ---- the entry of a run

-- the texts of a run, and an entry of its journal: on the set, the limits and the days, by the scripts and the changes, with all its
-- lines, of which the run went on from those of the older journal, and with the era and the runs that the seal beside that one knows
pub record IsSealedRun (beside : Beside) (set limits : List ℕ) (first days today : ℕ) (after : List ℕ) (texts : List (Option (List ℕ)))
    (changing : Option (List ℕ)) (journal : List ℕ) (entry : Belonging) (replies : List ℕ) : Type 0 where
  pub run : IsRun set limits first days today after texts changing journal replies
  pub imprints : List (Option Imprint)
  pub are_imprints : AreImprints texts imprints
  pub changed : Option Imprint
  pub is_changed : IsImprintOf changing changed
  pub earlier : Carried
  pub are_earlier : IsCarried beside after earlier
  pub is_entry : IsEntryOfRun (basis_of set limits first days) imprints changed (length run.past) (length run.history) today
      earlier journal entry

-- where the bytes of the set, of the limits and of the older journal are known
abbrev pub IsSealedRunOf : {S L : Type 0} → Beside → Bytes S → Bytes L → Inputs S L → ℕ → Option (List ℕ)
    → List (Option (List ℕ)) → Option (List ℕ) → List ℕ → Belonging → List ℕ → Type 0
IsSealedRunOf beside set limits inputs today after texts changing journal entry replies =
    OfThree (set inputs.set) (limits inputs.limits) after
    (λ xs ys zs. IsSealedRun beside xs ys inputs.first inputs.days today zs texts changing journal entry replies)

-- the same of a run that goes on with the scripts of a journal: the whole scripts and changes stand behind the lines of the older one and
-- so many more
pub record IsSealedResume (beside : Beside) (set limits : List ℕ) (first days today : ℕ) (after : List ℕ) (more : ℕ) (resumed : List ℕ)
    (texts : List (Option (List ℕ))) (changing : Option (List ℕ)) (journal : List ℕ) (entry : Belonging)
    (replies : List ℕ) : Type 0 where
  pub run : IsResumed set limits first days today after more resumed texts changing journal replies
  pub imprints : List (Option Imprint)
  pub are_imprints : AreImprints texts imprints
  pub changed : Option Imprint
  pub is_changed : IsImprintOf changing changed
  pub earlier : Carried
  pub are_earlier : IsCarried beside resumed earlier
  pub is_entry : IsEntryOfRun (basis_of set limits first days) imprints changed (length run.is_asked.older + more)
      (length run.history) today earlier journal entry

-- where the bytes of the set, of the limits and of both journals are known, behind the number of lines that is taken
abbrev pub IsSealedResumeOf : {S L : Type 0} → Beside → Bytes S → Bytes L → Inputs S L → ℕ → Option (List ℕ) → Option ℕ
    → Option (List ℕ) → List (Option (List ℕ)) → Option (List ℕ) → List ℕ → Belonging → List ℕ → Type 0
IsSealedResumeOf beside set limits inputs today after given resumed texts changing journal entry replies =
    OfFour (set inputs.set) (limits inputs.limits) after resumed (λ xs ys older zs. WithTaken given beside zs
    (λ more. IsSealedResume beside xs ys inputs.first inputs.days today older more zs texts changing journal entry replies))
