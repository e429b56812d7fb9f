-- What `audit` writes: one line that says that a journal is legal, and what it comes to.
use Rattle.std.specs.Prelude.{◌≡◌, ◌≤◌, ◌<◌, ◌⊎◌, ℕ, List, [], ◌∷◌, ◌++◌, length, decimal, codes, Option, Some, IfSome}
use Rattle.ssim_flights.specs.declared.flight.Flight.{Flight as Flown}
use Rattle.seat_nesting.specs.Nesting.{Ladders}
use Rattle.seat_journal.specs.Text.{IsJournalText}
use Rattle.seat_journal.specs.Reading.{IsFirstFault}
use Rattle.seat_journal.specs.declared.entry.Entry.{Entry}
use Rattle.seat_journal.specs.declared.fault.JournalFault.{JournalFault}
use Rattle.seat_journal.specs.declared.fault.JournalKind.{JournalKind}
use Rattle.seat_journal.specs.declared.fault.JournalKind.TheVariants as journal_kinds
use Rattle.seat_rules.specs.declared.fault.ReplayFault.{ReplayFault}
use Rattle.seat_rules.specs.declared.fault.ReplayKind.{ReplayKind}
use Rattle.seat_rules.specs.declared.fault.ReplayKind.TheVariants as replay_kinds
use Rattle.seat_rules.specs.Inventory.{Inventory, HoldsWithinLimits}
use Rattle.seat_rules.specs.Journal.{IsLegal}
use Rattle.seat_rules.specs.Replaying.{replay_fault}
use Rattle.seat_rules.specs.Totals.{totals_of}
use Rattle.seat_rules.specs.declared.totals.Totals.{Totals}
use Rattle.seat_desk.specs.declared.fault.DeskFault.{DeskFault}
use Rattle.seat_desk.specs.declared.fault.DeskFault.TheVariants.{Journal, Replay, Memory}
use Rattle.seat_desk.specs.declared.inputs.Inputs.{Inputs}
use Rattle.seat_desk.specs.Loading.{Bytes, IsLoaded, IsRefusedLoad, IsTooLargeLoad}

-- LEGAL lines N confirmed N released N
abbrev pub audit_line : Totals → List ℕ
audit_line totals =
    codes "LEGAL lines " ++ decimal totals.lines ++ codes " confirmed " ++ decimal totals.confirmed
    ++ codes " released " ++ decimal totals.released ++ 10 ∷ []

-- the most lines of a journal
abbrev pub most_lines : ℕ
most_lines = 999_999

-- 256 MiB
abbrev pub most_journal_bytes : ℕ
most_journal_bytes = 268_435_456

-- the bytes are the text of a legal history over these limits, after which no leg holds more than the limits that it leaves, and the line says what it comes to
pub record IsAudited (grid : Ladders) (bytes line : List ℕ) : Type 0 where
  pub entries : List Entry
  pub is_text : IsJournalText bytes entries
  pub legal : IsLegal grid entries
  pub few : length entries ≤ most_lines
  pub within : HoldsWithinLimits grid entries
  pub sums : line ≡ audit_line (totals_of entries)

-- the bytes are the text of a legal history over these limits, after which no leg holds more than the limits that it leaves, and this is what it comes to
pub record IsTotalled (grid : Ladders) (bytes : List ℕ) (totals : Totals) : Type 0 where
  pub entries : List Entry
  pub is_text : IsJournalText bytes entries
  pub legal : IsLegal grid entries
  pub few : length entries ≤ most_lines
  pub within : HoldsWithinLimits grid entries
  pub sums : totals ≡ totals_of entries

-- the bytes are the text of a legal history over these limits, and the inventory is what it comes to and takes as many lines as a journal has at most, after which no leg holds more than the limits that it leaves
pub record IsReplayOf (grid : Ladders) (bytes : List ℕ) (core : Inventory) : Type 0 where
  pub grid_is : core.grid ≡ grid
  pub cap_is : core.cap ≡ most_lines
  pub is_text : IsJournalText bytes core.journal
  pub legal : IsLegal grid core.journal
  pub few : length core.journal ≤ most_lines
  pub within : HoldsWithinLimits grid core.journal

-- the fault is the first of the text, or that of the entries that it is the text of
abbrev pub IsRefusedJournal : Ladders → DeskFault → List ℕ → Type 0
IsRefusedJournal grid (Journal fault) bytes = IsFirstFault bytes fault.line fault.kind
IsRefusedJournal grid (Replay fault) bytes =
    (entries : List Entry) × IsJournalText bytes entries × (replay_fault grid most_lines entries ≡ Some fault)
IsRefusedJournal grid _ bytes = ⊥

-- and there is no such history
abbrev pub IsUnaudited : Ladders → List ℕ → Type 0
IsUnaudited grid bytes = (entries : List Entry) → IsJournalText bytes entries → IsLegal grid entries
    → length entries ≤ most_lines → ⊥

-- the bytes are not too large, but they are refused
pub record IsUnlawful (grid : Ladders) (fault : DeskFault) (bytes : List ℕ) : Type 0 where
  pub within : length bytes ≤ most_journal_bytes
  pub refused : IsRefusedJournal grid fault bytes
  pub none : IsUnaudited grid bytes

-- the desk's fault for one of the text, and for one of the replay
abbrev pub journal_fault_of : JournalKind → JournalFault → DeskFault
journal_fault_of journal_kinds.Memory fault = Memory
journal_fault_of _ fault = Journal fault

abbrev pub journal_fault : JournalFault → DeskFault
journal_fault fault = journal_fault_of fault.kind fault

abbrev pub replay_refusal_of : ReplayKind → ReplayFault → DeskFault
replay_refusal_of replay_kinds.Memory fault = Memory
replay_refusal_of _ fault = Replay fault

abbrev pub replay_refusal : ReplayFault → DeskFault
replay_refusal fault = replay_refusal_of fault.kind fault

-- the line audits the journal, which is not too large, over that grid
pub record IsAudit (set limits : List ℕ) (first days : ℕ) (journal line : List ℕ) : Type 0 where
  pub flights : List Flown
  pub grid : Ladders
  pub is_loaded : IsLoaded set limits first days flights grid
  pub within : length journal ≤ most_journal_bytes
  pub is_audited : IsAudited grid journal line

-- where the bytes of the three inputs are known
abbrev pub IsAuditOf : {S L : Type 0} → Bytes S → Bytes L → Inputs S L → Option (List ℕ) → List ℕ → Type 0
IsAuditOf set limits inputs journal line =
    IfSome (set inputs.set) (λ xs. IfSome (limits inputs.limits)
    (λ ys. IfSome journal (λ zs. IsAudit xs ys inputs.first inputs.days zs line)))

-- a journal that is refused over that grid
pub record IsRefusedOver (set limits : List ℕ) (first days : ℕ) (fault : DeskFault) (journal : List ℕ) : Type 0 where
  pub flights : List Flown
  pub grid : Ladders
  pub is_loaded : IsLoaded set limits first days flights grid
  pub is_unlawful : IsUnlawful grid fault journal

-- that of the set, of its flights or of the limits, or else of the journal
abbrev pub AuditRefusal : List ℕ → List ℕ → ℕ → ℕ → List ℕ → DeskFault → Type 0
AuditRefusal set limits first days journal (Journal fault) = IsRefusedOver set limits first days (Journal fault) journal
AuditRefusal set limits first days journal (Replay fault) = IsRefusedOver set limits first days (Replay fault) journal
AuditRefusal set limits first days journal fault = IsRefusedLoad set limits first days fault

pub record IsRefusedAudit (set limits : List ℕ) (first days : ℕ) (journal : List ℕ) (fault : DeskFault) : Type 0 where
  pub refusal : AuditRefusal set limits first days journal fault

-- the set, the limits or the journal is too large
abbrev pub IsTooLarge : List ℕ → List ℕ → List ℕ → Type 0
IsTooLarge set limits journal = IsTooLargeLoad set limits ⊎ (most_journal_bytes < length journal)

-- where the bytes of the three inputs are known
abbrev pub IsRefusedAuditOf : {S L : Type 0} → Bytes S → Bytes L → Inputs S L → Option (List ℕ) → DeskFault → Type 0
IsRefusedAuditOf set limits inputs journal fault =
    IfSome (set inputs.set) (λ xs. IfSome (limits inputs.limits)
    (λ ys. IfSome journal (λ zs. IsRefusedAudit xs ys inputs.first inputs.days zs fault)))

abbrev pub IsTooLargeOf : {S L : Type 0} → Bytes S → Bytes L → Inputs S L → Option (List ℕ) → Type 0
IsTooLargeOf set limits inputs journal =
    IfSome (set inputs.set) (λ xs. IfSome (limits inputs.limits) (λ ys. IfSome journal (λ zs. IsTooLarge xs ys zs)))
