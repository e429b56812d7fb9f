-- Several journals, each with what stands beside it and what its seal knows.
use Rattle.std.specs.Prelude.{◌≡◌, ◌≤◌, ◌<◌, ◌⊎◌, ℕ, ◌+◌, max, List, [], ◌∷◌, ◌++◌, length, map, Option, None, Some, IfSome}
use Rattle.airline_base.specs.Noting.{noted}
use Rattle.seat_seal.specs.Besides.{IsFaultBeside}
use Rattle.seat_seal.specs.Known.{IsKnown}
use Rattle.seat_seal.specs.declared.beside.Basis.{Basis}
use Rattle.seat_seal.specs.declared.beside.Beside.{Beside}
use Rattle.seat_seal.specs.declared.seal.Sealed.{Sealed as Belonging}
use Rattle.seat_desk.specs.AuditDesk.{most_journal_bytes}
use Rattle.seat_desk.specs.Sealing.{IsBesideFault}
use Rattle.seat_desk.specs.declared.fault.DeskFault.{DeskFault}
use Rattle.seat_desk.specs.declared.fault.DeskFault.TheVariants as desk
use Rattle.carry_plans.specs.declared.fault.CarryFault.TheVariants as carry
use Rattle.carry_plans.specs.declared.join_fault.JoinFault.{JoinFault}
use Rattle.carry_plans.specs.declared.join_fault.JoinFault.TheVariants as joins
use Rattle.carry_plans.specs.declared.journals.KnownTexts.{KnownTexts}

-- the text, which is not too large, agrees with what stands beside it, and this is what its seal knows
pub record IsKnownText (basis : Basis) (beside : Beside) (known : Belonging) (text : List ℕ) : Type 0 where
  pub within : length text ≤ most_journal_bytes
  pub agrees : IsFaultBeside beside basis text None
  pub is_known : IsKnown beside text (Some known)

-- so it does, and something is known
pub record IsPassed (basis : Basis) (beside : Beside) (text : List ℕ) : Type 0 where
  pub known : Belonging
  pub is_known : IsKnownText basis beside known text

-- each of them
abbrev pub KnownEach : Basis → List Beside → List (List ℕ) → List Belonging → Type 0
KnownEach basis besides [] [] = Unit {0}
KnownEach basis (beside ∷ besides) (text ∷ texts) (known ∷ knowns) = IsKnownText basis beside known text × KnownEach basis besides texts knowns
KnownEach basis _ _ _ = ⊥

pub record AreKnownTexts (basis : Basis) (besides : List Beside) (texts : List (List ℕ)) (knowns : List Belonging) : Type 0 where
  pub each : KnownEach basis besides texts knowns

-- these are the texts that were read, and what is known of each
pub record AreReadTexts (basis : Basis) (besides : List Beside) (read : KnownTexts) (texts : List (List ℕ)) : Type 0 where
  pub texts_are : read.texts ≡ texts
  pub are_known : AreKnownTexts basis besides texts read.knowns

-- the largest epoch
abbrev pub latest : List Belonging → ℕ
latest [] = 0
latest (known ∷ knowns) = max known.era.epoch (latest knowns)

-- ---- one behind the other

-- the text, and what its seal knows, are added
pub record IsAdded (basis : Basis) (beside : Beside) (old new : KnownTexts) (text : List ℕ) : Type 0 where
  pub known : Belonging
  pub is_known : IsKnownText basis beside known text
  pub texts_are : new.texts ≡ old.texts ++ text ∷ []
  pub knowns_are : new.knowns ≡ old.knowns ++ known ∷ []

-- all are added, where their bytes are known
abbrev pub AddedOn : Basis → List Beside → List (Option (List ℕ)) → KnownTexts → KnownTexts → Type 0
AddedOn basis besides [] old new = new ≡ old
AddedOn basis (beside ∷ besides) (text ∷ texts) old new =
    (mid : KnownTexts) × IfSome text (IsAdded basis beside old mid) × AddedOn basis besides texts mid new
AddedOn basis [] (text ∷ texts) old new = ⊥

pub record AreAddedOn (basis : Basis) (besides : List Beside) (texts : List (Option (List ℕ))) (old new : KnownTexts) : Type 0 where
  pub each : AddedOn basis besides texts old new

-- ---- why they are not

-- a device and memory say nothing about the journal at this place
abbrev pub of_input : ℕ → DeskFault → JoinFault
of_input place desk.Device = joins.Device
of_input place desk.Memory = joins.Carry carry.Memory
of_input place fault = joins.Beside place fault

-- the text is too large, or what stands beside it has this first fault
abbrev pub IsUnsealedAlone : Basis → Beside → DeskFault → List ℕ → Type 0
IsUnsealedAlone basis beside desk.TooLarge text = most_journal_bytes < length text
IsUnsealedAlone basis beside fault text = (length text ≤ most_journal_bytes) × IsBesideFault beside basis text fault

-- no more is known of it than its bytes
pub record IsUnknownText (basis : Basis) (beside : Beside) (text : List ℕ) : Type 0 where
  pub within : length text ≤ most_journal_bytes
  pub agrees : IsFaultBeside beside basis text None
  pub is_known : IsKnown beside text None

-- the journal at this place is refused so
abbrev pub RefusesRead : Basis → Beside → ℕ → JoinFault → List ℕ → Type 0
RefusesRead basis beside place (joins.Beside at fault) text = (at ≡ place) × IsUnsealedAlone basis beside fault text
RefusesRead basis beside place (joins.Unsealed at) text = (at ≡ place) × IsUnknownText basis beside text
RefusesRead basis beside place joins.Device text = Unit {0}
RefusesRead basis beside place (joins.Carry fault) text = Unit {0}
RefusesRead basis beside place (joins.Journals fault) text = ⊥

-- behind so many journals, the first of these that is refused is refused so, and those before it agree with what stands beside them
abbrev pub UnreadOn : Basis → List Beside → List (Option (List ℕ)) → ℕ → JoinFault → Type 0
UnreadOn basis (beside ∷ besides) (text ∷ texts) before fault =
    IfSome text (RefusesRead basis beside (before + 1) fault)
    ⊎ (IfSome text (IsPassed basis beside) × UnreadOn basis besides texts (before + 1) fault)
UnreadOn basis _ _ before fault = ⊥

pub record IsUnreadOn (basis : Basis) (besides : List Beside) (texts : List (Option (List ℕ))) (before : ℕ) (fault : JoinFault) : Type 0 where
  pub first : UnreadOn basis besides texts before fault

-- it is a fault of reading
abbrev pub IsReadingFault : JoinFault → Type 0
IsReadingFault (joins.Beside at fault) = Unit {0}
IsReadingFault (joins.Unsealed at) = Unit {0}
IsReadingFault joins.Device = Unit {0}
IsReadingFault (joins.Carry fault) = fault ≡ carry.Memory
IsReadingFault (joins.Journals fault) = ⊥

-- one of these counts has risen by a failure, and the journals before it agree with what stands beside them, where their bytes are known
abbrev pub RisenOn : Basis → List Beside → List (Option (List ℕ)) → List ℕ → List ℕ → Type 0
RisenOn basis (beside ∷ besides) (text ∷ texts) (old ∷ olds) (new ∷ news) =
    (new ≡ noted old) ⊎ (IfSome text (IsPassed basis beside) × RisenOn basis besides texts olds news)
RisenOn basis _ _ _ _ = ⊥

pub record HasFailedReading {D : Type 0} (basis : Basis) (besides : List Beside) (texts : List (Option (List ℕ))) (failures : D → ℕ)
    (olds news : List D) : Type 0 where
  pub first : RisenOn basis besides texts (map failures olds) (map failures news)
