-- What scripts and changes ask of a run that is started, and what is wrong with one of them.
use Rattle.std.specs.Prelude.{◌≡◌, ◌<◌, ◌⊎◌, ◌||◌, ℕ, Bool, List, length, Option, None, Some, IfSome}
use Rattle.std.specs.List.{AllByRecursion}
use Rattle.airimp_lines.specs.declared.requests.Request.{Request}
use Rattle.seat_seal.specs.Booked.{changes_booked, scripts_booked}
use Rattle.seat_seal.specs.Known.{carried_by, runs_known}
use Rattle.seat_seal.specs.declared.comparing.SealFault.{SealFault}
use Rattle.seat_desk.specs.Desk.{IsOfInput}
use Rattle.seat_desk.specs.Loading.{IsBehind}
use Rattle.seat_desk.specs.declared.fault.DeskFault.{DeskFault}
use Rattle.seat_desk.specs.declared.fault.DeskFault.TheVariants.{Device, Seal, TooLarge}
use Rattle.seat_replies.specs.Changes.{AreChanges, IsOfChanges, IsOnLeg, IsUnchanged, most_change_bytes}
use Rattle.seat_replies.specs.Requests.{AreRight, AreScripts, IsOfScript, IsRefusedAmong, IsTooLargeAmong}
use Rattle.seat_scripts.specs.Repeated.{AreRepeated, IsBookedOf, IsOneBooked, fault_of_past}
use Rattle.seat_scripts.specs.TextImprints.{AreImprints, IsImprintOf}
use Rattle.seat_scripts.specs.declared.asked.Asked.{Asked}
use Rattle.seat_scripts.specs.declared.asked.Texts.{Texts}
use Rattle.seat_scripts.specs.declared.starting.Start.{Start}

-- these are the requests of the scripts and the changes that the rows ask for on the flights, the imprints of all, and whether a run that
-- the seal knows booked what one of them begins with
pub record AreTexts (start : Start) (today : ℕ) (texts : List (Option (List ℕ))) (changing : Option (List ℕ))
    (read : Texts) : Type 0 where
  pub are_scripts : AreScripts today texts read.scripts.scripts
  pub are_right : AllByRecursion AreRight read.scripts.scripts
  pub are_imprints : AreImprints texts read.scripts.imprints
  pub is_one_booked : IsOneBooked (scripts_booked None (runs_known start.known)) texts read.scripts.is_booked
  pub are_changes : IfSome changing (AreChanges start.flights read.changes.changes.items)
  pub on_legs : AllByRecursion (IsOnLeg start.flights) read.changes.changes.items
  pub is_imprint : IsImprintOf changing read.changes.imprint
  pub is_booked : IsBookedOf (changes_booked None (runs_known start.known)) changing read.changes.are_booked

-- all scripts are right
pub record HaveRequests (today : ℕ) (texts : List (Option (List ℕ))) : Type 0 where
  pub scripts : List (List Request)
  pub are_scripts : AreScripts today texts scripts

-- the fault is that of the first script that is none
pub record IsNoScript (today : ℕ) (texts : List (Option (List ℕ))) (fault : DeskFault) : Type 0 where
  pub of_script : IsOfScript fault
  pub is_refused : IsRefusedAmong today 1 texts fault

-- or one of the changes
pub record AreNoChanges (start : Start) (changing : Option (List ℕ)) (fault : DeskFault) : Type 0 where
  pub of_changes : IsOfChanges fault
  pub unchanged : IfSome changing (IsUnchanged start.flights fault)

-- a script is refused, is too large or has failed, or the changes are so behind right scripts
pub record AreNoTexts (start : Start) (today : ℕ) (texts : List (Option (List ℕ))) (changing : Option (List ℕ))
    (script_failed changes_failed : Type 0) (fault : DeskFault) : Type 0 where
  pub refused : IsOfInput fault
      → IsNoScript today texts fault ⊎ IsBehind (HaveRequests today texts) (AreNoChanges start changing fault)
  pub large : fault ≡ TooLarge → IsTooLargeAmong today texts
      ⊎ IsBehind (HaveRequests today texts) (IfSome changing (λ bytes. most_change_bytes < length bytes))
  pub device : fault ≡ Device → script_failed ⊎ IsBehind (HaveRequests today texts) changes_failed

-- this is what the seal beside the older journal has against a run with these texts
pub record IsJudgedFrom (start : Start) (answer : Option SealFault) (again : Bool) (texts : List (Option (List ℕ)))
    (changing : Option (List ℕ)) : Type 0 where
  pub repeated : Bool
  pub are_repeated : AreRepeated None (runs_known start.known) texts changing repeated
  pub answer_is : fault_of_past again start.known repeated ≡ answer

-- what they ask of the run that is started
abbrev pub asked_by : Start → Texts → Asked
asked_by start read = record {
  flights = start.flights;
  past = start.past;
  scripts = read.scripts.scripts;
  changes = read.changes.changes;
  basis = start.basis;
  imprints = read.scripts.imprints;
  changes_imprint = read.changes.imprint;
  behind = length start.past.journal;
  earlier = carried_by start.known;
}

-- a run that the seal knows booked what one of them begins with
abbrev pub is_repeated : Texts → Bool
is_repeated read = read.scripts.is_booked || read.changes.are_booked

-- the seal has nothing against what they ask
pub record IsUnopposed (start : Start) (again : Bool) (read : Texts) (asked : Asked) : Type 0 where
  pub answer_is : fault_of_past again start.known (is_repeated read) ≡ None
  pub asked_is : asked ≡ asked_by start read

-- or this
pub record IsOpposed (start : Start) (again : Bool) (read : Texts) (fault : DeskFault) : Type 0 where
  pub of_past : SealFault
  pub answer_is : fault_of_past again start.known (is_repeated read) ≡ Some of_past
  pub fault_is : fault ≡ Seal of_past

-- this is asked, and the seal has nothing against it
pub record IsAskedFrom (start : Start) (again : Bool) (today : ℕ) (texts : List (Option (List ℕ)))
    (changing : Option (List ℕ)) (asked : Asked) : Type 0 where
  pub read : Texts
  pub are_texts : AreTexts start today texts changing read
  pub is_judged : IsJudgedFrom start None again texts changing
  pub asked_is : asked ≡ asked_by start read

-- all is right, but this is what the seal has against it
pub record IsStoppedByPast (start : Start) (again : Bool) (today : ℕ) (texts : List (Option (List ℕ)))
    (changing : Option (List ℕ)) (fault : DeskFault) : Type 0 where
  pub read : Texts
  pub are_texts : AreTexts start today texts changing read
  pub of_past : SealFault
  pub is_judged : IsJudgedFrom start (Some of_past) again texts changing
  pub fault_is : fault ≡ Seal of_past

-- one of the two stops the run
abbrev pub IsNotAskedFrom : Start → Bool → ℕ → List (Option (List ℕ)) → Option (List ℕ) → Type 0 → Type 0 → DeskFault
    → Type 0
IsNotAskedFrom start again today texts changing script_failed changes_failed fault =
    AreNoTexts start today texts changing script_failed changes_failed fault
    ⊎ IsStoppedByPast start again today texts changing fault
