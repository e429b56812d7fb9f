-- What stands beside two journals that are read one behind the other: each is compared ahead of its own faults, the older one's first.
use Rattle.std.specs.Prelude.{◌≤◌, ◌<◌, ◌⊎◌, ℕ, List, length, Option}
use Rattle.seat_seal.specs.declared.beside.Beside.{Beside}
use Rattle.seat_desk.specs.Answering.{IsFirstTooLarge, IsRefusedAnswer}
use Rattle.seat_desk.specs.AuditDesk.{IsUnlawful, most_journal_bytes}
use Rattle.seat_desk.specs.Loading.{Bytes, IsBehind}
use Rattle.seat_desk.specs.Sealing.{Agrees, IsBesideFault, basis_of}
use Rattle.seat_desk.specs.declared.fault.DeskFault.{DeskFault}
use Rattle.seat_desk.specs.declared.inputs.Inputs.{Inputs}
use Rattle.seat_scripts.specs.Against.{FailsAgainst, HasOlder, IsRefusedAgainst, IsTooLargeAgainst, OfFour}
use Rattle.seat_replies.specs.Asked.{OfThree}
use Rattle.seat_scripts.specs.Beside.{FailsStart}
use Rattle.seat_scripts.specs.Resumed.{FailsResume, IsRefusedResume, IsTooLargeResume}
use Rattle.seat_scripts.specs.Taken.{ForTaken}
use Rattle.seat_scripts.specs.declared.besides.Besides.{Besides}

-- the older journal is right, and agrees with what stands beside it
pub record IsOlderSealed (beside : Beside) (set limits : List ℕ) (first days : ℕ) (after : List ℕ) : Type 0 where
  pub agrees : Agrees beside set limits first days after
  pub has_older : HasOlder set limits first days after

-- each of the two agrees with what stands beside it
pub record BothAgree (besides : Besides) (set limits : List ℕ) (first days : ℕ) (after journal : List ℕ) : Type 0 where
  pub older : Agrees besides.older set limits first days after
  pub newer : Agrees besides.journal set limits first days journal

-- where the bytes of the four inputs are known
abbrev pub BothAgreeOf : {S L : Type 0} → Besides → Bytes S → Bytes L → Inputs S L → Option (List ℕ) → Option (List ℕ)
    → Type 0
BothAgreeOf besides set limits inputs after journal =
    OfFour (set inputs.set) (limits inputs.limits) after journal
    (λ xs ys older zs. BothAgree besides xs ys inputs.first inputs.days older zs)

-- ---- refusals

-- the older journal is right and agrees, the journal is not too large, and this is the first fault of what stands beside it
pub record IsUnsealedBehind (besides : Besides) (set limits : List ℕ) (first days : ℕ) (after journal : List ℕ)
    (fault : DeskFault) : Type 0 where
  pub older : IsOlderSealed besides.older set limits first days after
  pub within : length journal ≤ most_journal_bytes
  pub is_first : IsBesideFault besides.journal (basis_of set limits first days) journal fault

-- the fault is that of the set, of its flights, of the limits, of what stands beside the older journal, of that journal, or of what
-- stands beside the journal; or both agree, and the fault is another
abbrev pub IsRefusedSealed : Besides → List ℕ → List ℕ → ℕ → ℕ → List ℕ → List ℕ → DeskFault → Type 0 → Type 0
IsRefusedSealed besides set limits first days after journal fault other =
    IsRefusedAnswer IsUnlawful besides.older set limits first days after fault
    ⊎ (IsUnsealedBehind besides set limits first days after journal fault
    ⊎ IsBehind (BothAgree besides set limits first days after journal) other)

-- of an audit with scripts, behind the number of lines that is taken, where the bytes of the four inputs are known
abbrev pub IsRefusedSealedAgainstOf : {S L : Type 0} → Besides → Bytes S → Bytes L → Inputs S L → Option (List ℕ) → Option ℕ
    → Option (List ℕ) → ℕ → List (Option (List ℕ)) → DeskFault → Type 0
IsRefusedSealedAgainstOf besides set limits inputs after given journal today texts fault =
    OfFour (set inputs.set) (limits inputs.limits) after journal
    (λ xs ys older zs. IsRefusedSealed besides xs ys inputs.first inputs.days older zs fault
    (ForTaken given besides.journal zs (λ more. IsRefusedAgainst xs ys inputs.first inputs.days older more zs today texts fault)))

-- of a run that goes on with scripts
abbrev pub IsRefusedSealedResumeOf : {S L : Type 0} → Besides → Bytes S → Bytes L → Inputs S L → ℕ → Option (List ℕ) → Option ℕ
    → Option (List ℕ) → List (Option (List ℕ)) → Option (List ℕ) → DeskFault → Type 0
IsRefusedSealedResumeOf besides set limits inputs today after given journal texts changing fault =
    OfFour (set inputs.set) (limits inputs.limits) after journal
    (λ xs ys older zs. IsRefusedSealed besides xs ys inputs.first inputs.days older zs fault
    (ForTaken given besides.journal zs (λ more. IsRefusedResume xs ys inputs.first inputs.days today older more zs texts changing fault)))

-- ---- inputs that are too large

-- the set, the limits or the older journal is the first that is too large, or the journal is behind an older one that is right and
-- agrees; or both agree, and it is another input
abbrev pub IsTooLargeSealed : Besides → List ℕ → List ℕ → ℕ → ℕ → List ℕ → List ℕ → Type 0 → Type 0
IsTooLargeSealed besides set limits first days after journal other =
    IsFirstTooLarge set limits first days after
    ⊎ (IsBehind (IsOlderSealed besides.older set limits first days after) (most_journal_bytes < length journal)
    ⊎ IsBehind (BothAgree besides set limits first days after journal) other)

abbrev pub IsTooLargeSealedAgainstOf : {S L : Type 0} → Besides → Bytes S → Bytes L → Inputs S L → Option (List ℕ)
    → Option (List ℕ) → ℕ → List (Option (List ℕ)) → Type 0
IsTooLargeSealedAgainstOf besides set limits inputs after journal today texts =
    OfFour (set inputs.set) (limits inputs.limits) after journal
    (λ xs ys older zs. IsTooLargeSealed besides xs ys inputs.first inputs.days older zs
    (IsTooLargeAgainst xs ys inputs.first inputs.days older zs today texts))

abbrev pub IsTooLargeSealedResumeOf : {S L : Type 0} → Besides → Bytes S → Bytes L → Inputs S L → ℕ → Option (List ℕ)
    → Option (List ℕ) → List (Option (List ℕ)) → Option (List ℕ) → Type 0
IsTooLargeSealedResumeOf besides set limits inputs today after journal texts changing =
    OfFour (set inputs.set) (limits inputs.limits) after journal
    (λ xs ys older zs. IsTooLargeSealed besides xs ys inputs.first inputs.days older zs
    (IsTooLargeResume xs ys inputs.first inputs.days today older zs texts changing))

-- ---- inputs that fail

-- the set or the limits failed, as the first says, or the older journal behind them, or the journal behind an older one that is right
-- and agrees; or both agree, and another input failed
abbrev pub FailsSealed : {S L : Type 0} → Besides → Bytes S → Bytes L → Inputs S L → Option (List ℕ) → Option (List ℕ)
    → Type 0 → Type 0 → Type 0 → Type 0 → Type 0
FailsSealed besides set limits inputs after journal load_failed older_failed journal_failed other =
    FailsStart set limits inputs load_failed older_failed
    ⊎ (IsBehind (OfThree (set inputs.set) (limits inputs.limits) after
    (λ xs ys older. IsOlderSealed besides.older xs ys inputs.first inputs.days older)) journal_failed
    ⊎ IsBehind (BothAgreeOf besides set limits inputs after journal) other)

abbrev pub FailsSealedAgainst : {S L : Type 0} → Besides → Bytes S → Bytes L → Inputs S L → Option (List ℕ)
    → Option (List ℕ) → Type 0 → Type 0 → Type 0 → Type 0 → Type 0
FailsSealedAgainst besides set limits inputs after journal load_failed older_failed journal_failed script_failed =
    FailsSealed besides set limits inputs after journal load_failed older_failed journal_failed
    (FailsAgainst set limits inputs after journal load_failed older_failed journal_failed script_failed)

abbrev pub FailsSealedResume : {S L : Type 0} → Besides → Bytes S → Bytes L → Inputs S L → ℕ → Option (List ℕ)
    → Option (List ℕ) → List (Option (List ℕ)) → Type 0 → Type 0 → Type 0 → Type 0 → Type 0 → Type 0
FailsSealedResume besides set limits inputs today after journal texts load_failed older_failed journal_failed script_failed
    changes_failed =
    FailsSealed besides set limits inputs after journal load_failed older_failed journal_failed
    (FailsResume set limits inputs today after journal texts load_failed older_failed journal_failed script_failed
    changes_failed)
