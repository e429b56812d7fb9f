-- What stands beside the journal that a run goes on from: it is compared ahead of that journal's own faults.
use Rattle.std.specs.Prelude.{◌≡◌, ◌≤◌, ◌⊎◌, ℕ, Bool, List, length, Option, None, Some, IfSome}
use Rattle.airimp_lines.specs.declared.requests.Request.{Request}
use Rattle.ssim_flights.specs.declared.flight.Flight.{Flight as Flown}
use Rattle.seat_nesting.specs.Nesting.{Ladders}
use Rattle.seat_journal.specs.declared.entry.Control.{Control}
use Rattle.seat_journal.specs.declared.entry.Entry.{Entry}
use Rattle.seat_seal.specs.Besides.{IsFaultBeside}
use Rattle.seat_seal.specs.declared.beside.Basis.{Basis}
use Rattle.seat_seal.specs.declared.beside.Beside.{Beside}
use Rattle.seat_seal.specs.declared.comparing.SealFault.{SealFault}
use Rattle.seat_desk.specs.Answering.{IsFirstTooLarge, IsRefusedAnswer}
use Rattle.seat_desk.specs.AuditDesk.{IsUnlawful, most_journal_bytes}
use Rattle.seat_desk.specs.Loading.{Bytes, IsBehind}
use Rattle.seat_desk.specs.Sealing.{Agrees, IsBesideFault}
use Rattle.seat_desk.specs.declared.fault.DeskFault.{DeskFault}
use Rattle.seat_desk.specs.declared.fault.DeskFault.TheVariants.{Book, Seal}
use Rattle.seat_desk.specs.declared.inputs.Inputs.{Inputs}
use Rattle.seat_replies.specs.Asked.{FailsRun, HasLoaded, IsAsked, IsTooLargeRun, OfThree}
use Rattle.seat_scripts.specs.Repeated.{IsJudgedPast}
use Rattle.seat_replies.specs.RunDesk.{IsRefusedRun}

-- ---- one journal, on a basis that is known

-- what stands beside it has no fault
pub record IsFaultless (beside : Beside) (basis : Basis) (bytes : List ℕ) : Type 0 where
  pub faultless : IsFaultBeside beside basis bytes None

-- the journal is not too large, and this is the first fault of what stands beside it
pub record IsUnsealed (beside : Beside) (basis : Basis) (fault : DeskFault) (bytes : List ℕ) : Type 0 where
  pub within : length bytes ≤ most_journal_bytes
  pub is_first : IsBesideFault beside basis bytes fault

-- the fault is the first of what stands beside it, or that has none and the journal is refused over these ladders
abbrev pub IsRefusedBeside : Beside → Basis → Ladders → DeskFault → List ℕ → Type 0
IsRefusedBeside beside basis grid fault bytes =
    IsUnsealed beside basis fault bytes ⊎ IsBehind (IsFaultless beside basis bytes) (IsUnlawful grid fault bytes)

-- ---- a journal that a run goes on from

-- what stands beside it agrees with the inputs, where the bytes of the set, of the limits and of the journal are known
abbrev pub AgreesOf : {S L : Type 0} → Beside → Bytes S → Bytes L → Inputs S L → Option (List ℕ) → Type 0
AgreesOf beside set limits inputs journal =
    OfThree (set inputs.set) (limits inputs.limits) journal (λ xs ys zs. Agrees beside xs ys inputs.first inputs.days zs)

-- all inputs are right, but this is what the seal has against the run: the bookings were carried to another journal; or a run that it knows names a
-- script or the changes, which are not to be booked again
pub record IsRefusedByPast (again : Bool) (beside : Beside) (set limits : List ℕ) (first days today : ℕ) (after : List ℕ)
    (texts : List (Option (List ℕ))) (changing : Option (List ℕ)) (fault : DeskFault) : Type 0 where
  pub flights : List Flown
  pub grid : Ladders
  pub past : List Entry
  pub scripts : List (List Request)
  pub changes : List Control
  pub is_asked : IsAsked set limits first days today after texts changing flights grid past scripts changes
  pub of_past : SealFault
  pub is_judged : IsJudgedPast (Some of_past) again beside after texts changing
  pub fault_is : fault ≡ Seal of_past

-- a call is refused only where the seal has nothing against the run: what is booked already is told first, also where the journal has no room
-- for it
abbrev pub IsCallOnce : Bool → Beside → List ℕ → List (Option (List ℕ)) → Option (List ℕ) → DeskFault → Type 0
IsCallOnce again beside after texts changing (Book session call) = IsJudgedPast None again beside after texts changing
IsCallOnce again beside after texts changing _ = Unit {0}

-- the fault is one of the run
pub record IsRefusedOnce (again : Bool) (beside : Beside) (set limits : List ℕ) (first days today : ℕ) (after : List ℕ)
    (texts : List (Option (List ℕ))) (changing : Option (List ℕ)) (fault : DeskFault) : Type 0 where
  pub refused : IsRefusedRun set limits first days today after texts changing fault
  pub once : IsCallOnce again beside after texts changing fault

-- the fault is that of the set, of its flights, of the limits, of what stands beside the older journal, or of that journal; or what
-- stands there agrees, and the fault is one of the run, or what the seal has against it
abbrev pub IsRefusedSealedRun : Beside → Bool → List ℕ → List ℕ → ℕ → ℕ → ℕ → List ℕ → List (Option (List ℕ))
    → Option (List ℕ) → DeskFault → Type 0
IsRefusedSealedRun beside again set limits first days today after texts changing fault =
    IsRefusedAnswer IsUnlawful beside set limits first days after fault
    ⊎ IsBehind (Agrees beside set limits first days after)
    (IsRefusedOnce again beside set limits first days today after texts changing fault
    ⊎ IsRefusedByPast again beside set limits first days today after texts changing fault)

abbrev pub IsRefusedSealedRunOf : {S L : Type 0} → Beside → Bool → Bytes S → Bytes L → Inputs S L → ℕ → Option (List ℕ)
    → List (Option (List ℕ)) → Option (List ℕ) → DeskFault → Type 0
IsRefusedSealedRunOf beside again set limits inputs today after texts changing fault =
    OfThree (set inputs.set) (limits inputs.limits) after
    (λ xs ys zs. IsRefusedSealedRun beside again xs ys inputs.first inputs.days today zs texts changing fault)

-- the set, the limits or the older journal is the first that is too large; or what stands beside that one agrees, and an input of the
-- run is
abbrev pub IsTooLargeSealedRun : Beside → List ℕ → List ℕ → ℕ → ℕ → ℕ → List ℕ → List (Option (List ℕ))
    → Option (List ℕ) → Type 0
IsTooLargeSealedRun beside set limits first days today after texts changing =
    IsFirstTooLarge set limits first days after
    ⊎ IsBehind (Agrees beside set limits first days after)
    (IsTooLargeRun set limits first days today after texts changing)

abbrev pub IsTooLargeSealedRunOf : {S L : Type 0} → Beside → Bytes S → Bytes L → Inputs S L → ℕ → Option (List ℕ)
    → List (Option (List ℕ)) → Option (List ℕ) → Type 0
IsTooLargeSealedRunOf beside set limits inputs today after texts changing =
    OfThree (set inputs.set) (limits inputs.limits) after
    (λ xs ys zs. IsTooLargeSealedRun beside xs ys inputs.first inputs.days today zs texts changing)

-- the set or the limits failed, as the first says, or the older journal behind a right set and limits
abbrev pub FailsStart : {S L : Type 0} → Bytes S → Bytes L → Inputs S L → Type 0 → Type 0 → Type 0
FailsStart set limits inputs load_failed past_failed =
    load_failed
    ⊎ IsBehind (IfSome (set inputs.set) (λ xs. IfSome (limits inputs.limits) (λ ys. HasLoaded xs ys inputs.first inputs.days)))
    past_failed

-- so they did; or what stands beside the older journal agrees, and an input of the run failed
abbrev pub FailsSealedRun : {S L : Type 0} → Beside → Bytes S → Bytes L → Inputs S L → ℕ → Option (List ℕ)
    → List (Option (List ℕ)) → Type 0 → Type 0 → Type 0 → Type 0 → Type 0
FailsSealedRun beside set limits inputs today after texts load_failed past_failed script_failed changes_failed =
    FailsStart set limits inputs load_failed past_failed
    ⊎ IsBehind (AgreesOf beside set limits inputs after)
    (FailsRun set limits inputs today after texts load_failed past_failed script_failed changes_failed)
