-- What is known of what a run is asked, with what stands beside the journal that it goes on from.
use Rattle.std.specs.Prelude.{◌≡◌, ℕ, Bool, List, length, Option, None, IfSome}
use Rattle.std.specs.List.{AllByRecursion}
use Rattle.seat_rules.specs.Journal.{IsLegal}
use Rattle.seat_seal.specs.Known.{IsCarried}
use Rattle.seat_seal.specs.declared.beside.Beside.{Beside}
use Rattle.seat_desk.specs.AuditDesk.{most_lines}
use Rattle.seat_desk.specs.Desk.{IsOfInput}
use Rattle.seat_desk.specs.Loading.{Bytes, IsGridOf}
use Rattle.seat_desk.specs.Sealing.{IsBasisOf}
use Rattle.seat_desk.specs.declared.fault.DeskFault.{DeskFault}
use Rattle.seat_desk.specs.declared.fault.DeskFault.TheVariants.{Device, TooLarge}
use Rattle.seat_desk.specs.declared.inputs.Inputs.{Inputs}
use Rattle.seat_replies.specs.Asked.{IsAskedOf}
use Rattle.seat_replies.specs.Changes.{IsOnLeg}
use Rattle.seat_replies.specs.Requests.{AreRight}
use Rattle.seat_scripts.specs.Beside.{AgreesOf, FailsSealedRun, IsRefusedSealedRunOf, IsTooLargeSealedRunOf}
use Rattle.seat_scripts.specs.Repeated.{IsJudgedPastOf}
use Rattle.seat_scripts.specs.TextImprints.{AreImprints, IsImprintOf}
use Rattle.seat_scripts.specs.declared.asked.Asked.{Asked}

-- all is right and agrees, the seal has nothing against the run, and the basis, the imprints and what
-- the next seal takes are those of the inputs
pub record IsReadAsked {S L : Type 0} (beside : Beside) (again : Bool) (set : Bytes S) (limits : Bytes L)
    (inputs : Inputs S L) (today : ℕ) (after : Option (List ℕ)) (texts : List (Option (List ℕ)))
    (changing : Option (List ℕ)) (asked : Asked) : Type 0 where
  pub is_asked : IsAskedOf set limits inputs today after texts changing asked.flights asked.past.grid asked.past.journal
      asked.scripts asked.changes.items
  pub agree : AgreesOf beside set limits inputs after
  pub is_judged : IsJudgedPastOf None again beside after texts changing
  pub is_basis : IsBasisOf set limits inputs asked.basis
  pub is_grid : IsGridOf asked.flights asked.past.grid
  pub is_legal : IsLegal asked.past.grid asked.past.journal
  pub most : asked.past.cap ≡ most_lines
  pub are_right : AllByRecursion AreRight asked.scripts
  pub on_legs : AllByRecursion (IsOnLeg asked.flights) asked.changes.items
  pub are_imprints : AreImprints texts asked.imprints
  pub is_imprint : IsImprintOf changing asked.changes_imprint
  pub is_carried : IfSome after (λ bytes. IsCarried beside bytes asked.earlier)
  pub behind_is : asked.behind ≡ length asked.past.journal

-- an input is refused, is too large or has failed, each behind those that are right, or all are, and the seal has something against the run
pub record IsNotAsked {S L : Type 0} (beside : Beside) (again : Bool) (set : Bytes S) (limits : Bytes L)
    (inputs : Inputs S L) (today : ℕ) (after : Option (List ℕ)) (texts : List (Option (List ℕ)))
    (changing : Option (List ℕ)) (load_failed past_failed script_failed changes_failed : Type 0) (fault : DeskFault) : Type 0
  where
    pub refused : IsOfInput fault
        → IsRefusedSealedRunOf beside again set limits inputs today after texts changing fault
    pub large : fault ≡ TooLarge → IsTooLargeSealedRunOf beside set limits inputs today after texts changing
    pub device : fault ≡ Device
        → FailsSealedRun beside set limits inputs today after texts load_failed past_failed script_failed changes_failed
