-- What a run that goes on with scripts makes of two journals and scripts that are read, and what stops it there.
use Rattle.std.specs.Prelude.{◌≡◌, ◌⊎◌, ◌+◌, ◌||◌, ℕ, Bool, List, Option, None, Some, IfSome, length}
use Rattle.std.specs.List.{AllByRecursion}
use Rattle.seat_seal.specs.Booked.{changes_booked}
use Rattle.seat_seal.specs.Known.{carried_by, runs_known}
use Rattle.seat_seal.specs.declared.comparing.SealFault.{SealFault}
use Rattle.seat_desk.specs.declared.fault.DeskFault.{DeskFault}
use Rattle.seat_desk.specs.declared.fault.DeskFault.TheVariants.{Seal}
use Rattle.seat_replies.specs.Changes.{AreChanges, IsOfChanges, IsOnLeg, IsUnchanged}
use Rattle.seat_scripts.specs.Begun.{fault_of_known}
use Rattle.seat_scripts.specs.Repeated.{IsBookedOf}
use Rattle.seat_scripts.specs.Resuming.{IsNoRest, IsRestOf}
use Rattle.seat_scripts.specs.TextImprints.{IsImprintOf}
use Rattle.seat_scripts.specs.declared.against.Against.{Against}
use Rattle.seat_scripts.specs.declared.asked.Asked.{Asked}
use Rattle.seat_scripts.specs.declared.changes.ReadChanges.{ReadChanges}

-- the lines ahead of what the scripts and the changes begin with
abbrev pub lines_ahead : Against → ℕ
lines_ahead read = length read.older.journal + read.more

-- this is what the journal's seal has against the scripts and the changes
pub record IsJudgedBeside (read : Against) (given : Option ℕ) (again : Bool) (changing : Option (List ℕ))
    (answer : Option SealFault) : Type 0 where
  pub booked : Bool
  pub are_booked : IsBookedOf (changes_booked (Some (lines_ahead read)) (runs_known read.known)) changing booked
  pub answer_is : fault_of_known again given (lines_ahead read) read.known (read.is_booked || booked) ≡ answer

-- the rows ask for these changes on the flights, and the seal has nothing against them and the scripts
pub record AreBeside (read : Against) (given : Option ℕ) (again : Bool) (changing : Option (List ℕ))
    (made : ReadChanges) : Type 0 where
  pub are_changes : IfSome changing (AreChanges read.flights made.changes.items)
  pub are_on_legs : AllByRecursion (IsOnLeg read.flights) made.changes.items
  pub is_imprint : IsImprintOf changing made.imprint
  pub is_judged : IsJudgedBeside read given again changing None

-- this is what is left of the scripts and these changes, behind as many lines
pub record IsLeft (read : Against) (made : ReadChanges) (asked : Asked) : Type 0 where
  pub is_rest : IsRestOf read.flights read.scripts made.changes.items read.older.journal read.more read.core.journal
      asked.scripts asked.changes.items
  pub flights_are : asked.flights ≡ read.flights
  pub past_is : asked.past ≡ read.core
  pub basis_is : asked.basis ≡ read.basis
  pub imprints_are : asked.imprints ≡ read.imprints
  pub imprint_is : asked.changes_imprint ≡ made.imprint
  pub behind_is : asked.behind ≡ lines_ahead read
  pub earlier_is : asked.earlier ≡ carried_by read.known

-- so it is, and this is what is left of both, behind as many lines
pub record IsGoneOn (read : Against) (given : Option ℕ) (again : Bool) (changing : Option (List ℕ)) (asked : Asked) :
    Type 0 where
  pub made : ReadChanges
  pub are_beside : AreBeside read given again changing made
  pub is_rest : IsRestOf read.flights read.scripts made.changes.items read.older.journal read.more read.core.journal
      asked.scripts asked.changes.items
  pub flights_are : asked.flights ≡ read.flights
  pub past_is : asked.past ≡ read.core
  pub basis_is : asked.basis ≡ read.basis
  pub imprints_are : asked.imprints ≡ read.imprints
  pub imprint_is : asked.changes_imprint ≡ made.imprint
  pub behind_is : asked.behind ≡ lines_ahead read
  pub earlier_is : asked.earlier ≡ carried_by read.known

-- the seal has this against the scripts and the changes, all of which are right
pub record IsStoppedByRuns (read : Against) (given : Option ℕ) (again : Bool) (changing : Option (List ℕ))
    (fault : DeskFault) : Type 0 where
  pub made : ReadChanges
  pub are_changes : IfSome changing (AreChanges read.flights made.changes.items)
  pub of_runs : SealFault
  pub is_judged : IsJudgedBeside read given again changing (Some of_runs)
  pub fault_is : fault ≡ Seal of_runs

-- the fault is one of the changes
pub record IsStoppedByChanges (read : Against) (changing : Option (List ℕ)) (fault : DeskFault) : Type 0 where
  pub of_changes : IsOfChanges fault
  pub unchanged : IfSome changing (IsUnchanged read.flights fault)

-- the seal has nothing against them, but the journal has no such beginning of them
pub record IsStoppedByLines (read : Against) (given : Option ℕ) (again : Bool) (changing : Option (List ℕ))
    (fault : DeskFault) : Type 0 where
  pub made : ReadChanges
  pub are_beside : AreBeside read given again changing made
  pub is_no_rest : IsNoRest read.flights read.scripts made.changes.items read.older.journal read.more read.core.journal fault

-- one of the first two stops the run ahead of the lines
abbrev pub IsStoppedAhead : Against → Option ℕ → Bool → Option (List ℕ) → DeskFault → Type 0
IsStoppedAhead read given again changing fault =
    IsStoppedByChanges read changing fault ⊎ IsStoppedByRuns read given again changing fault

-- one of the three stops it
abbrev pub IsStopped : Against → Option ℕ → Bool → Option (List ℕ) → DeskFault → Type 0
IsStopped read given again changing fault =
    IsStoppedAhead read given again changing fault ⊎ IsStoppedByLines read given again changing fault
