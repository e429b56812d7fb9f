-- What the answer of a question is to its inputs: a data set, limit rows and a journal with what stands beside it, each read and checked before the next.
use Rattle.std.specs.Prelude.{◌≤◌, ◌<◌, ◌⊎◌, ℕ, List, length, Option, IfSome}
use Rattle.ssim_flights.specs.declared.flight.Flight.{Flight as Flown}
use Rattle.seat_limits.specs.Authorised.{authorised_grid}
use Rattle.seat_limits.specs.declared.limit_row.LimitRow.{LimitRow}
use Rattle.seat_nesting.specs.Nesting.{Ladders}
use Rattle.seat_desk.specs.AuditDesk.{most_journal_bytes}
use Rattle.seat_desk.specs.Desk.{HasFailed}
use Rattle.seat_desk.specs.Loading.{Bytes, HasFirstLoadFailed, IsBehind, IsFirstTooLargeLoad, IsGround, IsRefusedLoad}
use Rattle.seat_seal.specs.declared.beside.Beside.{Beside}
use Rattle.seat_desk.specs.Sealing.{Agrees, IsBesideFault, basis_of}
use Rattle.seat_desk.specs.declared.fault.DeskFault.{DeskFault}
use Rattle.seat_desk.specs.declared.inputs.Inputs.{Inputs}

-- the text answers the journal, which is not too large and agrees with what stands beside it, over the flights and limit rows of these inputs
pub record IsAnswer (answers : List Flown → List LimitRow → Ladders → List ℕ → List ℕ → Type 0) (beside : Beside)
    (set limits : List ℕ) (first days : ℕ) (journal text : List ℕ) : Type 0 where
  pub flights : List Flown
  pub rows : List LimitRow
  pub is_ground : IsGround set limits first days flights rows
  pub within : length journal ≤ most_journal_bytes
  pub sealed : Agrees beside set limits first days journal
  pub is_answer : answers flights rows (authorised_grid rows flights) journal text

-- where the bytes of the three inputs are known
abbrev pub IsAnswerOf : {S L : Type 0} → (List Flown → List LimitRow → Ladders → List ℕ → List ℕ → Type 0) → Beside
    → Bytes S → Bytes L → Inputs S L → Option (List ℕ) → List ℕ → Type 0
IsAnswerOf answers beside set limits inputs journal text =
    IfSome (set inputs.set) (λ xs. IfSome (limits inputs.limits)
    (λ ys. IfSome journal (λ zs. IsAnswer answers beside xs ys inputs.first inputs.days zs text)))

-- neither the set nor the limits are too large, and both are right
pub record HasGround (first days : ℕ) (set limits : List ℕ) : Type 0 where
  pub flights : List Flown
  pub rows : List LimitRow
  pub is_ground : IsGround set limits first days flights rows

-- the set and the limits are right and the journal is not too large, but this is the first fault of what stands beside it
pub record IsRefusedSeal (beside : Beside) (set limits : List ℕ) (first days : ℕ) (journal : List ℕ)
    (fault : DeskFault) : Type 0 where
  pub ground : HasGround first days set limits
  pub within : length journal ≤ most_journal_bytes
  pub is_first : IsBesideFault beside (basis_of set limits first days) journal fault

-- the journal, which is not too large and agrees with what stands beside it, is refused over the ladders of these inputs
pub record IsRefusedJournalOver (refuses : Ladders → DeskFault → List ℕ → Type 0) (beside : Beside)
    (set limits : List ℕ) (first days : ℕ) (journal : List ℕ) (fault : DeskFault) : Type 0 where
  pub flights : List Flown
  pub rows : List LimitRow
  pub is_ground : IsGround set limits first days flights rows
  pub within : length journal ≤ most_journal_bytes
  pub sealed : Agrees beside set limits first days journal
  pub refused : refuses (authorised_grid rows flights) fault journal

-- the fault is that of the set, of its flights or of the limits, or else of what stands beside the journal, or else of the journal
abbrev pub IsRefusedAnswer : (Ladders → DeskFault → List ℕ → Type 0) → Beside → List ℕ → List ℕ → ℕ → ℕ → List ℕ
    → DeskFault → Type 0
IsRefusedAnswer refuses beside set limits first days journal fault =
    IsRefusedLoad set limits first days fault
    ⊎ (IsRefusedSeal beside set limits first days journal fault
    ⊎ IsRefusedJournalOver refuses beside set limits first days journal fault)

abbrev pub IsRefusedAnswerOf : {S L : Type 0} → (Ladders → DeskFault → List ℕ → Type 0) → Beside → Bytes S → Bytes L
    → Inputs S L → Option (List ℕ) → DeskFault → Type 0
IsRefusedAnswerOf refuses beside set limits inputs journal fault =
    IfSome (set inputs.set) (λ xs. IfSome (limits inputs.limits)
    (λ ys. IfSome journal (λ zs. IsRefusedAnswer refuses beside xs ys inputs.first inputs.days zs fault)))

abbrev pub HasGroundOf : {S L : Type 0} → Bytes S → Bytes L → Inputs S L → Type 0
HasGroundOf set limits inputs =
    IfSome (set inputs.set) (λ xs. IfSome (limits inputs.limits) (HasGround inputs.first inputs.days xs))

-- the first of the inputs that is not right is too large
abbrev pub IsFirstTooLarge : List ℕ → List ℕ → ℕ → ℕ → List ℕ → Type 0
IsFirstTooLarge set limits first days journal =
    IsFirstTooLargeLoad set limits first days
    ⊎ IsBehind (HasGround first days set limits) (most_journal_bytes < length journal)

abbrev pub IsFirstTooLargeOf : {S L : Type 0} → Bytes S → Bytes L → Inputs S L → Option (List ℕ) → Type 0
IsFirstTooLargeOf set limits inputs journal =
    IfSome (set inputs.set) (λ xs. IfSome (limits inputs.limits)
    (λ ys. IfSome journal (IsFirstTooLarge xs ys inputs.first inputs.days)))

-- the first of the inputs that was not read and right has failed
abbrev pub HasFirstFailed : {S L J : Type 0} → Bytes S → Bytes L → (S → ℕ) → (L → ℕ) → (J → ℕ) → Inputs S L → Inputs S L
    → J → J → Type 0
HasFirstFailed set limits of_set of_limits of_journal old new journal_old journal_new =
    HasFirstLoadFailed set of_set of_limits old new
    ⊎ IsBehind (HasGroundOf set limits old) (HasFailed of_journal journal_old journal_new)
