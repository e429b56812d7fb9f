-- Where the runs of a journal began that its seal knows, and what that seal has against a run that goes on with scripts.
use Rattle.std.specs.Prelude.{◌≡◌, ◌+◌, ◌&&◌, ℕ, Bool, not, nat_eq, if◌then◌else◌, is_none, List, [], ◌∷◌, length, Option, None, Some}
use Rattle.std.specs.List.{list_all, list_any}
use Rattle.airimp_lines.specs.declared.requests.Request.{Request}
use Rattle.ssim_flights.specs.declared.flight.Flight.{Flight as Flown}
use Rattle.seat_nesting.specs.Nesting.{Ladders}
use Rattle.seat_journal.specs.declared.entry.Control.{Control}
use Rattle.seat_journal.specs.Text.{IsJournalText}
use Rattle.seat_journal.specs.declared.entry.Entry.{Entry}
use Rattle.seat_seal.specs.Eras.{is_carried}
use Rattle.seat_seal.specs.Known.{IsKnown, era_known, runs_known}
use Rattle.seat_seal.specs.declared.beside.Beside.{Beside}
use Rattle.seat_seal.specs.declared.comparing.SealFault.{SealFault}
use Rattle.seat_seal.specs.declared.comparing.SealFault.TheVariants.{Again, Behind, Carried, Several}
use Rattle.seat_seal.specs.declared.run.Run.{Run}
use Rattle.seat_seal.specs.declared.seal.Sealed.{Sealed as Belonging}
use Rattle.seat_desk.specs.Loading.{Bytes}
use Rattle.seat_desk.specs.declared.fault.DeskFault.{DeskFault}
use Rattle.seat_desk.specs.declared.fault.DeskFault.TheVariants.{Book, NoBehind, Seal, Unasked}
use Rattle.seat_desk.specs.declared.inputs.Inputs.{Inputs}
use Rattle.seat_scripts.specs.Against.{OfFour}
use Rattle.seat_scripts.specs.Both.{BothAgree}
use Rattle.seat_scripts.specs.Repeated.{AreRepeated}
use Rattle.seat_scripts.specs.Resumed.{IsWholeAsked}
use Rattle.seat_scripts.specs.Taken.{lines_taken}
use Rattle.seat_scripts.specs.declared.besides.Besides.{Besides}

-- the run began behind so many lines
abbrev pub began_at : ℕ → Run → Bool
began_at lines run = nat_eq lines run.behind

-- no run began behind so many lines; or that number is not said, and others began elsewhere; or a run ahead of these lines booked
-- what a script begins with, and it is not to be booked again
abbrev pub fault_among : Bool → Option ℕ → ℕ → List Run → Bool → Option SealFault
fault_among again given lines runs repeated =
    if not (list_any (began_at lines) runs) then Some Behind
    else if is_none given && not (list_all (began_at lines) runs) then Some Several
    else if not again && repeated then Some Again
    else None

-- a seal that knows no run has nothing against it
abbrev pub fault_of_runs : Bool → Option ℕ → ℕ → List Run → Bool → Option SealFault
fault_of_runs again given lines [] repeated = None
fault_of_runs again given lines (r ∷ more) repeated = fault_among again given lines (r ∷ more) repeated

-- its bookings were carried to another journal; or this is what the runs that it knows have against it
abbrev pub fault_of_known : Bool → Option ℕ → ℕ → Option Belonging → Bool → Option SealFault
fault_of_known again given lines known repeated =
    if is_carried (era_known known) then Some Carried
    else fault_of_runs again given lines (runs_known known) repeated

-- what the seal beside a journal has against these scripts and changes, behind the lines of an older one and those that are taken
pub record IsJudged (answer : Option SealFault) (again : Bool) (given : Option ℕ) (beside : Beside) (after journal : List ℕ)
    (texts : List (Option (List ℕ))) (changing : Option (List ℕ)) : Type 0 where
  pub known : Option Belonging
  pub is_known : IsKnown beside journal known
  pub older : List Entry
  pub is_older : IsJournalText after older
  pub repeated : Bool
  pub are_repeated : AreRepeated (Some (length older + lines_taken given known)) (runs_known known) texts changing repeated
  pub answer_is : fault_of_known again given (length older + lines_taken given known) known repeated ≡ answer

-- where the bytes of the set, of the limits and of both journals are known
abbrev pub IsJudgedOf : {S L : Type 0} → Option SealFault → Bool → Beside → Bytes S → Bytes L → Inputs S L → Option (List ℕ)
    → Option ℕ → Option (List ℕ) → List (Option (List ℕ)) → Option (List ℕ) → Type 0
IsJudgedOf answer again beside set limits inputs after given journal texts changing =
    OfFour (set inputs.set) (limits inputs.limits) after journal
    (λ xs ys older zs. IsJudged answer again given beside older zs texts changing)

-- a fault that is looked for behind what the seal has against it: a line that is not asked, lines that the journal lacks, a call
abbrev pub IsBehindRuns : DeskFault → Type 0
IsBehindRuns (Unasked session call) = Unit {0}
IsBehindRuns NoBehind = Unit {0}
IsBehindRuns (Book session call) = Unit {0}
IsBehindRuns _ = ⊥

-- both journals agree with what stands beside them and all inputs are right, but this is what the seal has against them
pub record IsRefusedByRuns (besides : Besides) (again : Bool) (set limits : List ℕ) (first days today : ℕ) (after : List ℕ)
    (given : Option ℕ) (journal : List ℕ) (texts : List (Option (List ℕ))) (changing : Option (List ℕ))
    (fault : DeskFault) : Type 0 where
  pub agree : BothAgree besides set limits first days after journal
  pub flights : List Flown
  pub grid : Ladders
  pub older : List Entry
  pub lines : List Entry
  pub scripts : List (List Request)
  pub changes : List Control
  pub is_asked : IsWholeAsked set limits first days today after journal texts changing flights grid older lines scripts
      changes
  pub of_runs : SealFault
  pub is_judged : IsJudged (Some of_runs) again given besides.journal after journal texts changing
  pub fault_is : fault ≡ Seal of_runs

-- where the bytes of the set, of the limits and of both journals are known
abbrev pub IsRefusedByRunsOf : {S L : Type 0} → Besides → Bool → Bytes S → Bytes L → Inputs S L → ℕ → Option (List ℕ)
    → Option ℕ → Option (List ℕ) → List (Option (List ℕ)) → Option (List ℕ) → DeskFault → Type 0
IsRefusedByRunsOf besides again set limits inputs today after given journal texts changing fault =
    OfFour (set inputs.set) (limits inputs.limits) after journal
    (λ xs ys older zs. IsRefusedByRuns besides again xs ys inputs.first inputs.days today older given zs texts changing fault)
