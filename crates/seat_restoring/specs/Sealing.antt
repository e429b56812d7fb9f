-- The seal of a journal that `recover` ends, and the three steps in which both are written. And the seals of one that lines are added to.
use Rattle.std.specs.Prelude.{◌≡◌, ◌⊎◌, ◌+◌, ℕ, false, true, List, [], length, Option}
use Rattle.seat_journal.specs.declared.entry.Entry.{Entry}
use Rattle.seat_journal.specs.Text.{journal_text}
use Rattle.seat_nesting.specs.Nesting.{Ladders}
use Rattle.seat_disk.specs.Leaving.{OldOr, Only, OnlyKnown, Within, replaced_by}
use Rattle.seat_serving.specs.GoingOn.{NoLonger}
use Rattle.seat_recovery.specs.declared.rest.Rest.{Rest}
use Rattle.seat_recovery.specs.OpenText.{open_text}
use Rattle.seat_recovery.specs.Recovering.{HasTornHead, IsRecovered}
use Rattle.seat_seal.specs.Closing.{IsEntryIn, runs_within}
use Rattle.seat_seal.specs.Imprints.{imprint_of}
use Rattle.seat_seal.specs.Known.{IsEraOf, IsKnown, runs_known}
use Rattle.seat_seal.specs.Reading.{two_entries}
use Rattle.seat_seal.specs.Rules.{is_seal, is_sealed}
use Rattle.seat_seal.specs.declared.beside.Basis.{Basis}
use Rattle.seat_seal.specs.declared.beside.Beside.{Beside}
use Rattle.seat_seal.specs.declared.imprint.Imprint.{Imprint}
use Rattle.seat_seal.specs.declared.run.Run.{Run}
use Rattle.seat_seal.specs.declared.seal.JournalState.{JournalState}
use Rattle.seat_seal.specs.declared.seal.JournalState.TheVariants.{Open, Closed}
use Rattle.seat_seal.specs.declared.seal.Sealed.{Sealed as Belonging}
use Rattle.seat_seal.specs.declared.seal.SealEntry.TheVariants.{Sealed}
use Rattle.seat_sealing.specs.Pairs.{Names, NamesEach}
use Rattle.seat_sealing.specs.Steps.{IsClosing, IsSealing, alone_text, both_text}
use Rattle.seat_desk.specs.AuditDesk.{most_lines}
use Rattle.seat_desk.specs.Loading.{Bytes}
use Rattle.seat_desk.specs.declared.inputs.Inputs.{Inputs}
use Rattle.seat_restoring.specs.Comparing.{OfBasis}
use Rattle.seat_restoring.specs.Restoring.{AreBytes}
use Rattle.seat_restoring.specs.Found.{KeepsSealed}
use Rattle.seat_restoring.specs.Serving.{StaysNamed, is_headless}

-- ---- the entries

-- the runs that what stands beside the file knows, but for those that began behind more lines
pub record AreRunsOver (beside : Beside) (file : List ℕ) (lines : ℕ) (runs : List Run) : Type 0 where
  pub known : Option Belonging
  pub is_known : IsKnown beside file known
  pub runs_are : runs ≡ runs_within lines (runs_known known)

-- an entry in this state, with this imprint and count of lines, and with these runs
pub record IsEntryOver (state : JournalState) (beside : Beside) (basis : Basis) (file : List ℕ) (imprint : Imprint) (lines : ℕ)
    (entry : Belonging) : Type 0 where
  pub runs : List Run
  pub are_runs : AreRunsOver beside file lines runs
  pub is : IsEntryIn state basis imprint lines runs entry

-- an open one, whose journal the file is as it is and at each later moment, and that of the journal of these lines; both are of the era that is known
pub record AreEntries (beside : Beside) (basis : Basis) (file : List ℕ) (journal : List Entry) (older newer : Belonging) : Type 0 where
  pub is_older : IsEntryOver Open beside basis file (imprint_of (open_text journal)) (length journal) older
  pub is_newer : IsEntryOver Closed beside basis file (imprint_of (open_text journal)) (length journal) newer
  pub older_era : IsEraOf beside file older.era
  pub newer_era : IsEraOf beside file newer.era

-- the texts of the seal that names both, and of that of the journal alone; a reader finds in each the entry of the journal, and in the first
-- an entry of each journal that begins with its lines
pub record AreSeals (beside : Beside) (basis : Basis) (file : List ℕ) (journal : List Entry) (both alone : List ℕ) : Type 0 where
  pub older : Belonging
  pub newer : Belonging
  pub entries : AreEntries beside basis file journal older newer
  pub both_is : both ≡ both_text (Sealed older) newer
  pub alone_is : alone ≡ alone_text newer
  pub first : Names both (imprint_of (open_text journal))
  pub each : NamesEach both (open_text journal)
  pub last : Names alone (imprint_of (open_text journal))

-- no seal may have the two entries
pub record AreUnsealable (beside : Beside) (basis : Basis) (file : List ℕ) (journal : List Entry) : Type 0 where
  pub older : Belonging
  pub newer : Belonging
  pub entries : AreEntries beside basis file journal older newer
  pub broken : is_seal (two_entries (Sealed older) (Sealed newer)) ≡ false

-- ---- the seal of a journal that lines are added to, or that was ended

-- the text is that of a seal of this journal alone, in this state, beside a file with these bytes
pub record IsSealIn (state : JournalState) (beside : Beside) (basis : Basis) (file : List ℕ) (journal : List Entry) (text : List ℕ)
    : Type 0 where
  pub entry : Belonging
  pub is_entry : IsEntryOver state beside basis file (imprint_of (open_text journal)) (length journal) entry
  pub is_text : text ≡ alone_text entry

-- it has its name, and a crash leaves it and nothing else
pub record IsSealedIn (state : JournalState) (beside : Beside) (basis : Basis) (file : List ℕ) (journal : List Entry)
    (old new : Option (List ℕ)) (leaves : List ℕ → Type 0) : Type 0 where
  pub text : List ℕ
  pub is_seal : IsSealIn state beside basis file journal text
  pub named : new ≡ replaced_by old text
  pub kept : Only text leaves

-- a crash leaves of the seal what it did, or such a one
pub record LeavesSeal (state : JournalState) (beside : Beside) (basis : Basis) (file : List ℕ) (journal : List Entry)
    (old new : List ℕ → Type 0) : Type 0 where
  pub each : (c : List ℕ) → new c → old c ⊎ IsSealIn state beside basis file journal c

-- no seal may have the entry
pub record HasNoSeal (state : JournalState) (beside : Beside) (basis : Basis) (file : List ℕ) (journal : List Entry) : Type 0 where
  pub entry : Belonging
  pub is_entry : IsEntryOver state beside basis file (imprint_of (open_text journal)) (length journal) entry
  pub broken : is_sealed entry ≡ false

-- ---- what is written

-- the seal of the journal alone has its name, and a crash leaves it and nothing else
pub record IsSealed (beside : Beside) (basis : Basis) (old new : Option (List ℕ)) (leaves : List ℕ → Type 0) (file : List ℕ)
    (journal : List Entry) : Type 0 where
  pub keeps : KeepsSealed beside file journal
  pub both : List ℕ
  pub alone : List ℕ
  pub seals : AreSeals beside basis file journal both alone
  pub named : new ≡ replaced_by old alone
  pub kept : Only alone leaves

-- a file with no whole head: the seal is as it was until the file is ended, and then it may be that of the journal alone
pub record IsHeading (file text alone : List ℕ) (journals_old seals_old journals_new seals_new : List ℕ → Type 0) : Type 0 where
  pub torn : HasTornHead file
  pub short : NoLonger (length file + length (journal_text [])) journals_old journals_new
  pub seal : Within seals_new seals_old ⊎ (Only text journals_new × OldOr alone seals_old seals_new)

-- the seal is about to name both, and a crash leaves no more of the journal's file than before; or a crash leaves that seal and nothing else,
-- while the file is cut and ended; or it leaves the journal, and only then the seal of it alone. No seal names a head that is not there
pub record IsStep (both text alone file : List ℕ) (journals_old seals_old journals_new seals_new : List ℕ → Type 0) : Type 0 where
  pub step : IsSealing both journals_old seals_old journals_new seals_new
      ⊎ (Only both seals_new ⊎ (IsClosing both text alone journals_new seals_new
      ⊎ IsHeading file text alone journals_old seals_old journals_new seals_new))

-- the seal of both is there, and of the file, which has a whole head, a crash leaves what is known of it and nothing else
pub record IsBehindSync (both : List ℕ) (rest : Rest) (known : Option (List ℕ)) (journals : List ℕ → Type 0) (seal : List ℕ) : Type 0 where
  pub is : seal ≡ both
  pub whole : is_headless rest ≡ false
  pub only : OnlyKnown known journals

-- a crash leaves the seal that stood there, or that of both behind a sync of the file
pub record SealsBoth (both : List ℕ) (rest : Rest) (known : Option (List ℕ)) (journals seals_old seals_new : List ℕ → Type 0) : Type 0 where
  pub each : (seal : List ℕ) → seals_new seal → seals_old seal ⊎ IsBehindSync both rest known journals seal

-- that seal is there, and what is known of the file is all that a crash leaves of it; or the file has no whole head, and the seal is as it was
abbrev pub NamesBoth : List ℕ → Rest → Option (List ℕ) → (List ℕ → Type 0) → (List ℕ → Type 0) → (List ℕ → Type 0) → Type 0
NamesBoth both rest known journals seals_old seals_new =
    ((is_headless rest ≡ false) × Only both seals_new × OnlyKnown known journals)
    ⊎ ((is_headless rest ≡ true) × Within seals_new seals_old)

-- the same of the journal that is recovered of a file
pub record IsOrdered (grid : Ladders) (beside : Beside) (basis : Basis) (file : List ℕ)
    (journals_old seals_old journals_new seals_new : List ℕ → Type 0) : Type 0 where
  pub journal : List Entry
  pub recovered : IsRecovered grid most_lines file journal
  pub both : List ℕ
  pub alone : List ℕ
  pub seals : AreSeals beside basis file journal both alone
  pub step : IsStep both (journal_text journal) alone file journals_old seals_old journals_new seals_new

-- a crash leaves no more than it did, or the steps are in order
abbrev pub Follow : Ladders → Beside → Basis → List ℕ → (List ℕ → Type 0) → (List ℕ → Type 0) → (List ℕ → Type 0)
    → (List ℕ → Type 0) → Type 0
Follow grid beside basis file journals_old seals_old journals_new seals_new =
    (Within journals_new journals_old × Within seals_new seals_old)
    ⊎ IsOrdered grid beside basis file journals_old seals_old journals_new seals_new

-- ---- of a file with the bytes that are known

pub record IsOrderedIn (grid : Ladders) (beside : Beside) (basis : Basis) (old : Option (List ℕ))
    (journals_old seals_old journals_new seals_new : List ℕ → Type 0) : Type 0 where
  pub file : List ℕ
  pub is_file : AreBytes old file
  pub ordered : IsOrdered grid beside basis file journals_old seals_old journals_new seals_new

abbrev pub FollowIn : Ladders → Beside → Basis → Option (List ℕ) → (List ℕ → Type 0) → (List ℕ → Type 0) → (List ℕ → Type 0)
    → (List ℕ → Type 0) → Type 0
FollowIn grid beside basis old journals_old seals_old journals_new seals_new =
    (Within journals_new journals_old × Within seals_new seals_old)
    ⊎ IsOrderedIn grid beside basis old journals_old seals_old journals_new seals_new

-- whatever a crash leaves of the two files, the seal has the journal's entry, or it is the one that stood there, beside what the file might
-- be left as, or beside one that had no whole head, to which a head and an END line are written
pub record StaysNamedIn (old : Option (List ℕ)) (journals_old seals_old journals_new seals_new : List ℕ → Type 0) : Type 0 where
  pub file : List ℕ
  pub is_file : AreBytes old file
  pub stays : StaysNamed (journal_text []) file journals_old seals_old journals_new seals_new

-- ---- over the inputs

abbrev pub IsSealedOver : {S L : Type 0} → Beside → Bytes S → Bytes L → Inputs S L → Option (List ℕ) → Option (List ℕ)
    → (List ℕ → Type 0) → List ℕ → List Entry → Type 0
IsSealedOver beside set limits inputs old new leaves file journal =
    OfBasis set limits inputs (λ basis. IsSealed beside basis old new leaves file journal)

abbrev pub AreUnsealableOver : {S L : Type 0} → Beside → Bytes S → Bytes L → Inputs S L → List ℕ → List Entry → Type 0
AreUnsealableOver beside set limits inputs file journal =
    OfBasis set limits inputs (λ basis. AreUnsealable beside basis file journal)

pub record IsOrderedOver (Are : Ladders → Type 0) (OfInputs : (Basis → Type 0) → Type 0) (beside : Beside) (old : Option (List ℕ))
    (journals_old seals_old journals_new seals_new : List ℕ → Type 0) : Type 0 where
  pub grid : Ladders
  pub are : Are grid
  pub ordered : OfInputs (λ basis. IsOrderedIn grid beside basis old journals_old seals_old journals_new seals_new)

abbrev pub FollowOver : {S L : Type 0} → (Ladders → Type 0) → Beside → Bytes S → Bytes L → Inputs S L → Option (List ℕ)
    → (List ℕ → Type 0) → (List ℕ → Type 0) → (List ℕ → Type 0) → (List ℕ → Type 0) → Type 0
FollowOver Are beside set limits inputs old journals_old seals_old journals_new seals_new =
    (Within journals_new journals_old × Within seals_new seals_old)
    ⊎ IsOrderedOver Are (OfBasis set limits inputs) beside old journals_old seals_old journals_new seals_new
