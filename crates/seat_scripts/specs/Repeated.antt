-- Scripts and changes that are booked already: one of them begins with what a run booked that the seal knows; and what that seal has against a run that
-- goes on from its journal.
use Rattle.std.specs.Prelude.{◌≡◌, ◌||◌, ◌&&◌, ℕ, Bool, not, if◌then◌else◌, List, Option, None, Some, IfSome}
use Rattle.std.specs.List.{AllZip, list_any}
use Rattle.seat_seal.specs.Booked.{changes_booked, is_booked, scripts_booked}
use Rattle.seat_seal.specs.Eras.{is_carried}
use Rattle.seat_seal.specs.Known.{IsKnown, era_known, runs_known}
use Rattle.seat_seal.specs.declared.beside.Beside.{Beside}
use Rattle.seat_seal.specs.declared.comparing.SealFault.{SealFault}
use Rattle.seat_seal.specs.declared.comparing.SealFault.TheVariants.{Again, Carried}
use Rattle.seat_seal.specs.declared.imprint.Imprint.{Imprint}
use Rattle.seat_seal.specs.declared.run.Run.{Run}
use Rattle.seat_seal.specs.declared.seal.Sealed.{Sealed as Belonging}

-- whether a text begins with one of what was booked, where its bytes are known
abbrev pub IsBookedOf : List Imprint → Option (List ℕ) → Bool → Type 0
IsBookedOf booked text answer = IfSome text (λ bytes. answer ≡ is_booked booked bytes)

-- whether one of the texts does
pub record IsOneBooked (booked : List Imprint) (texts : List (Option (List ℕ))) (answer : Bool) : Type 0 where
  pub answers : List Bool
  pub each : AllZip (IsBookedOf booked) texts answers
  pub answer_is : answer ≡ list_any (λ a. a) answers

-- or was found to do so before
pub record AreFoundOn (booked : List Imprint) (texts : List (Option (List ℕ))) (old new : Bool) : Type 0 where
  pub found : Bool
  pub is_one : IsOneBooked booked texts found
  pub new_is : new ≡ (old || found)

-- whether the runs ahead of so many lines, or all of them, booked what one of the scripts begins with, or the changes, which are the
-- script of session 0
pub record AreRepeated (lines : Option ℕ) (runs : List Run) (texts : List (Option (List ℕ))) (changing : Option (List ℕ))
    (answer : Bool) : Type 0 where
  pub scripts : Bool
  pub are_scripts : IsOneBooked (scripts_booked lines runs) texts scripts
  pub changes : Bool
  pub are_changes : IsBookedOf (changes_booked lines runs) changing changes
  pub answer_is : answer ≡ (scripts || changes)

-- its bookings were carried to another journal; or a run that is known booked what a text begins with, and it is not to be booked again
abbrev pub fault_of_past : Bool → Option Belonging → Bool → Option SealFault
fault_of_past again known repeated =
    if is_carried (era_known known) then Some Carried
    else if not again && repeated then Some Again
    else None

-- what the seal beside a journal has against a run that goes on from it with these texts
pub record IsJudgedPast (answer : Option SealFault) (again : Bool) (beside : Beside) (journal : List ℕ)
    (texts : List (Option (List ℕ))) (changing : Option (List ℕ)) : Type 0 where
  pub known : Option Belonging
  pub is_known : IsKnown beside journal known
  pub repeated : Bool
  pub are_repeated : AreRepeated None (runs_known known) texts changing repeated
  pub answer_is : fault_of_past again known repeated ≡ answer

-- where the journal's bytes are known
abbrev pub IsJudgedPastOf : Option SealFault → Bool → Beside → Option (List ℕ) → List (Option (List ℕ)) → Option (List ℕ)
    → Type 0
IsJudgedPastOf answer again beside journal texts changing =
    IfSome journal (λ bytes. IsJudgedPast answer again beside bytes texts changing)
