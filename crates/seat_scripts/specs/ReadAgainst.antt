-- What is known of two journals and scripts that are read, and of what stands beside each journal.
use Rattle.std.specs.Prelude.{◌≡◌, ◌≤◌, ◌+◌, ℕ, Bool, IsTrue, List, Option, Some, IfSome, length}
use Rattle.std.specs.List.{AllByRecursion}
use Rattle.seat_rules.specs.Journal.{IsLegal}
use Rattle.seat_seal.specs.Booked.{scripts_booked}
use Rattle.seat_seal.specs.Known.{IsKnown, runs_known}
use Rattle.seat_desk.specs.AuditDesk.{most_lines}
use Rattle.seat_desk.specs.Desk.{IsOfInput}
use Rattle.seat_desk.specs.Loading.{Bytes, IsGridOf}
use Rattle.seat_desk.specs.Sealing.{IsBasisOf}
use Rattle.seat_desk.specs.declared.fault.DeskFault.{DeskFault}
use Rattle.seat_desk.specs.declared.fault.DeskFault.TheVariants.{Device, TooLarge}
use Rattle.seat_desk.specs.declared.inputs.Inputs.{Inputs}
use Rattle.seat_replies.specs.Requests.{AreRight}
use Rattle.seat_scripts.specs.Against.{AreReadOf}
use Rattle.seat_scripts.specs.Both.{BothAgreeOf, FailsSealedAgainst, IsRefusedSealedAgainstOf, IsTooLargeSealedAgainstOf}
use Rattle.seat_scripts.specs.Repeated.{IsOneBooked}
use Rattle.seat_scripts.specs.Taken.{AreTaken, lines_taken}
use Rattle.seat_scripts.specs.TextImprints.{AreImprints}
use Rattle.seat_scripts.specs.declared.against.Against.{Against}
use Rattle.seat_scripts.specs.declared.besides.Besides.{Besides}

-- all is right and agrees, as many lines are taken as are given or known, and the imprints and what is booked are those of the scripts;
-- the basis is that of the inputs where it is wanted
pub record IsReadAgainst {S L : Type 0} (besides : Besides) (set : Bytes S) (limits : Bytes L) (inputs : Inputs S L)
    (after : Option (List ℕ)) (given : Option ℕ) (journal : Option (List ℕ)) (today : ℕ) (texts : List (Option (List ℕ)))
    (is_sealed : Bool) (read : Against) : Type 0 where
  pub are_read : AreReadOf set limits inputs after journal today texts read.flights read.older read.core read.scripts
  pub agree : BothAgreeOf besides set limits inputs after journal
  pub are_taken : IfSome journal (λ bytes. AreTaken given besides.journal bytes read.more)
  pub is_known : IfSome journal (λ bytes. IsKnown besides.journal bytes read.known)
  pub more_is : read.more ≡ lines_taken given read.known
  pub few_older : length read.older.journal ≤ most_lines
  pub is_legal : IsLegal read.core.grid read.core.journal
  pub most : read.core.cap ≡ most_lines
  pub are_right : AllByRecursion AreRight read.scripts
  pub one_grid : read.older.grid ≡ read.core.grid
  pub is_grid : IsGridOf read.flights read.core.grid
  pub few : length read.scripts ≤ 8
  pub few_lines : length read.core.journal ≤ most_lines
  pub is_basis : IsTrue is_sealed → IsBasisOf set limits inputs read.basis
  pub are_imprints : AreImprints texts read.imprints
  pub is_booked : IsOneBooked (scripts_booked (Some (length read.older.journal + read.more)) (runs_known read.known)) texts
      read.is_booked

-- an input is refused, is too large or has failed, each behind those that are right, or all are, and the lines are not what the scripts ask
pub record IsNotAgainst {S L : Type 0} (besides : Besides) (set : Bytes S) (limits : Bytes L) (inputs : Inputs S L)
    (after : Option (List ℕ)) (given : Option ℕ) (journal : Option (List ℕ)) (today : ℕ) (texts : List (Option (List ℕ)))
    (load_failed older_failed journal_failed script_failed : Type 0) (fault : DeskFault) : Type 0 where
  pub refused : IsOfInput fault → IsRefusedSealedAgainstOf besides set limits inputs after given journal today texts fault
  pub large : fault ≡ TooLarge → IsTooLargeSealedAgainstOf besides set limits inputs after journal today texts
  pub device : fault ≡ Device
      → FailsSealedAgainst besides set limits inputs after journal load_failed older_failed journal_failed script_failed
