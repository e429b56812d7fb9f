-- What a run starts from: a set and limits that are right, and an older journal that agrees with what stands beside it; or what is wrong with one of them.
use Rattle.std.specs.Prelude.{◌≡◌, ℕ, List, Option, IfSome}
use Rattle.seat_rules.specs.Journal.{IsLegal}
use Rattle.seat_seal.specs.Known.{IsKnown}
use Rattle.seat_seal.specs.declared.beside.Beside.{Beside}
use Rattle.seat_desk.specs.Answering.{IsFirstTooLargeOf, IsRefusedAnswerOf}
use Rattle.seat_desk.specs.AuditDesk.{IsUnlawful, most_lines}
use Rattle.seat_desk.specs.Desk.{IsOfInput}
use Rattle.seat_desk.specs.Loading.{Bytes, IsGridOf, IsLoadedOf}
use Rattle.seat_desk.specs.Sealing.{IsBasisOf}
use Rattle.seat_desk.specs.declared.fault.DeskFault.{DeskFault}
use Rattle.seat_desk.specs.declared.fault.DeskFault.TheVariants.{Device, TooLarge}
use Rattle.seat_desk.specs.declared.inputs.Inputs.{Inputs}
use Rattle.seat_replies.specs.Going.{IsPast}
use Rattle.seat_scripts.specs.Beside.{AgreesOf, FailsStart}
use Rattle.seat_scripts.specs.declared.starting.Start.{Start}

-- the set and the limits are loaded, and the older journal, which agrees with what stands beside it, is replayed over their grid
pub record IsStarted {S L : Type 0} (beside : Beside) (set : Bytes S) (limits : Bytes L) (inputs : Inputs S L)
    (after : Option (List ℕ)) (start : Start) : Type 0 where
  pub is_loaded : IsLoadedOf set limits inputs start.flights start.past.grid
  pub is_past : IfSome after (IsPast start.past.grid start.past.journal)
  pub agree : AgreesOf beside set limits inputs after
  pub is_known : IfSome after (λ bytes. IsKnown beside bytes start.known)
  pub is_basis : IsBasisOf set limits inputs start.basis
  pub is_grid : IsGridOf start.flights start.past.grid
  pub is_legal : IsLegal start.past.grid start.past.journal
  pub most : start.past.cap ≡ most_lines

-- one of them is refused, is too large or has failed, each behind those that are right
pub record IsNoStart {S L : Type 0} (beside : Beside) (set : Bytes S) (limits : Bytes L) (inputs : Inputs S L)
    (after : Option (List ℕ)) (load_failed past_failed : Type 0) (fault : DeskFault) : Type 0 where
  pub refused : IsOfInput fault → IsRefusedAnswerOf IsUnlawful beside set limits inputs after fault
  pub large : fault ≡ TooLarge → IsFirstTooLargeOf set limits inputs after
  pub device : fault ≡ Device → FailsStart set limits inputs load_failed past_failed
