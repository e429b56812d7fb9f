-- What `seal` writes: the seal of a journal that an audit accepts.
use Rattle.std.specs.Prelude.{◌≡◌, ◌≤◌, ◌⊎◌, ℕ, true, false, List, [], length, Option, None, Some, IfSome}
use Rattle.airline_base.specs.Days.{IsDate}
use Rattle.ssim_flights.specs.declared.flight.Flight.{Flight as Flown}
use Rattle.seat_disk.specs.Leaving.{Only, replaced_by}
use Rattle.seat_limits.specs.Authorised.{authorised_grid}
use Rattle.seat_limits.specs.declared.limit_row.LimitRow.{LimitRow}
use Rattle.seat_nesting.specs.Nesting.{Ladders}
use Rattle.seat_rules.specs.Inventory.{Inventory}
use Rattle.seat_seal.specs.Besides.{IsFaultBeside}
use Rattle.seat_seal.specs.Eras.{first_era}
use Rattle.seat_seal.specs.Fronts.{front_of}
use Rattle.seat_seal.specs.Imprints.{imprint_of}
use Rattle.seat_seal.specs.Known.{AreRunsOf, IsEraOf}
use Rattle.seat_seal.specs.Reading.{one_entry}
use Rattle.seat_seal.specs.Rules.{is_sealed}
use Rattle.seat_seal.specs.Text.{seal_text}
use Rattle.seat_seal.specs.declared.beside.Basis.{Basis}
use Rattle.seat_seal.specs.declared.beside.Beside.{Beside}
use Rattle.seat_seal.specs.declared.comparing.SealFault.{SealFault}
use Rattle.seat_seal.specs.declared.comparing.SealFault.TheVariants.{Journal}
use Rattle.seat_seal.specs.declared.era.Era.{Era}
use Rattle.seat_seal.specs.declared.imprint.Imprint.{Imprint}
use Rattle.seat_seal.specs.declared.run.Run.{Run}
use Rattle.seat_seal.specs.declared.seal.JournalState.TheVariants.{Closed}
use Rattle.seat_seal.specs.declared.seal.Sealed.{Sealed as Belonging}
use Rattle.seat_seal.specs.declared.seal.SealEntry.TheVariants.{Sealed}
use Rattle.seat_desk.specs.AuditDesk.{IsReplayOf, most_journal_bytes}
use Rattle.seat_desk.specs.Desk.{HasFailed}
use Rattle.seat_desk.specs.Loading.{Bytes, IsGround}
use Rattle.seat_desk.specs.Sealing.{basis_of}
use Rattle.seat_desk.specs.declared.fault.DeskFault.{DeskFault}
use Rattle.seat_desk.specs.declared.fault.DeskFault.TheVariants.{Seal}
use Rattle.seat_desk.specs.declared.inputs.Inputs.{Inputs}

-- the first era, of a journal whose bookings were carried where they were
abbrev pub era_carried : Era → Era
era_carried old = record first_era { carried = old.carried }

-- what stands beside a journal differs from it, and of its runs and its era nothing is kept but where its bookings were carried
pub record AreDenied (beside : Beside) (basis : Basis) (journal : List ℕ) (runs : List Run) (era : Era) : Type 0 where
  pub fault : SealFault
  pub is_first : IsFaultBeside beside basis journal (Some fault)
  pub none : runs ≡ []
  pub old : Era
  pub is_old : IsEraOf beside journal old
  pub era_is : era ≡ era_carried old

-- what stands beside a journal has no fault, and its runs and its era are those that it knows
pub record AreAgreed (beside : Beside) (basis : Basis) (journal : List ℕ) (runs : List Run) (era : Era) : Type 0 where
  pub faultless : IsFaultBeside beside basis journal None
  pub are_runs : AreRunsOf beside journal runs
  pub is_era : IsEraOf beside journal era

-- the runs and the era that are kept of what stands beside a journal
abbrev pub AreKept : Beside → Basis → List ℕ → List Run → Era → Type 0
AreKept beside basis journal runs era = AreDenied beside basis journal runs era ⊎ AreAgreed beside basis journal runs era

-- the entry is of that basis and of a journal of this era with so many lines, closed, and with these runs
pub record IsEntryOf (basis : Basis) (era : Era) (imprint : Imprint) (lines : ℕ) (runs : List Run) (entry : Belonging) : Type 0 where
  pub set : entry.set ≡ basis.set
  pub limits : entry.limits ≡ basis.limits
  pub first : IsDate entry.first.year entry.first.month entry.first.day basis.first
  pub days : entry.days ≡ basis.days
  pub era_is : entry.era ≡ era
  pub imprint_is : entry.journal.imprint ≡ imprint
  pub lines_are : entry.journal.lines ≡ lines
  pub state : entry.journal.state ≡ Closed
  pub runs_are : entry.runs ≡ runs

-- the bytes of the journal are a legal history over the grid, and this is the entry of it on this basis, with the runs and the era that
-- are kept of what stands beside it
pub record IsEntryOver (beside : Beside) (basis : Basis) (grid : Ladders) (journal : List ℕ) (entry : Belonging) : Type 0 where
  pub core : Inventory
  pub is_replay : IsReplayOf grid journal core
  pub runs : List Run
  pub era : Era
  pub are_kept : AreKept beside basis journal runs era
  pub is_entry : IsEntryOf basis era (imprint_of (front_of journal)) (length core.journal) runs entry

-- the bytes of the journal are a legal history over the ladders of these inputs, and this is the entry of it, with the runs and the era that are kept
-- of what stands beside it
pub record IsOwnEntry (beside : Beside) (set limits : List ℕ) (first days : ℕ) (journal : List ℕ) (entry : Belonging) : Type 0 where
  pub flights : List Flown
  pub rows : List LimitRow
  pub is_ground : IsGround set limits first days flights rows
  pub within : length journal ≤ most_journal_bytes
  pub core : Inventory
  pub is_replay : IsReplayOf (authorised_grid rows flights) journal core
  pub runs : List Run
  pub era : Era
  pub are_kept : AreKept beside (basis_of set limits first days) journal runs era
  pub is_entry : IsEntryOf (basis_of set limits first days) era (imprint_of (front_of journal)) (length core.journal) runs entry

-- the text is that of the journal's seal, which keeps the rules of one
pub record IsSealOf (beside : Beside) (set limits : List ℕ) (first days : ℕ) (journal text : List ℕ) : Type 0 where
  pub entry : Belonging
  pub is_own : IsOwnEntry beside set limits first days journal entry
  pub rules : is_sealed entry ≡ true
  pub is_text : text ≡ seal_text (one_entry (Sealed entry))

-- no seal may have the journal's entry: a run that is kept began behind more lines than the journal has
pub record IsMisnumbered (beside : Beside) (set limits : List ℕ) (first days : ℕ) (journal : List ℕ) (fault : DeskFault) : Type 0 where
  pub entry : Belonging
  pub is_own : IsOwnEntry beside set limits first days journal entry
  pub broken : is_sealed entry ≡ false
  pub fault_is : fault ≡ Seal Journal

-- where the bytes of the three inputs are known
abbrev pub IsSealOfKnown : {S L : Type 0} → Beside → Bytes S → Bytes L → Inputs S L → Option (List ℕ) → List ℕ → Type 0
IsSealOfKnown beside set limits inputs journal text =
    IfSome (set inputs.set) (λ xs. IfSome (limits inputs.limits)
    (λ ys. IfSome journal (λ zs. IsSealOf beside xs ys inputs.first inputs.days zs text)))

abbrev pub IsMisnumberedOf : {S L : Type 0} → Beside → Bytes S → Bytes L → Inputs S L → Option (List ℕ) → DeskFault → Type 0
IsMisnumberedOf beside set limits inputs journal fault =
    IfSome (set inputs.set) (λ xs. IfSome (limits inputs.limits)
    (λ ys. IfSome journal (λ zs. IsMisnumbered beside xs ys inputs.first inputs.days zs fault)))

-- nothing stands beside the journal, and nothing must
abbrev pub nothing : Beside
nothing = record { text = None; is_wanted = false }

-- a right text has the name, and a crash leaves it
pub record IsPut (right : List ℕ → Type 0) (old new : Option (List ℕ)) (may_leave : List ℕ → Type 0) : Type 0 where
  pub text : List ℕ
  pub is_right : right text
  pub named : new ≡ replaced_by old text
  pub kept : Only text may_leave

-- the seal's file failed: the name has what it had or a right text
pub record PuttingFailed {K : Type 0} (failures : K → ℕ) (named : K → Option (List ℕ)) (old new : K)
    (right : List ℕ → Type 0) : Type 0 where
  pub counted : HasFailed failures old new
  pub text : List ℕ
  pub is_right : right text
  pub either : (named new ≡ named old) ⊎ (named new ≡ replaced_by (named old) text)
