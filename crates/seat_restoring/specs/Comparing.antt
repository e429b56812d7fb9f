-- What is compared of what stands beside a file that is recovered, ahead of what is found in it: the set, the limits and the days, and that its bookings
-- were not carried to another journal. That its bytes are not those of the sealed journal is what a recovery is for: what is found of them is compared
-- with the sealed lines.
use Rattle.std.specs.Prelude.{◌≡◌, ◌⊎◌, ℕ, Bool, true, false, not, if◌then◌else◌, List, [], Option, None, Some, IfSome, is_some, option_map}
use Rattle.seat_seal.specs.Besides.{IsFaultBeside}
use Rattle.seat_seal.specs.declared.beside.Basis.{Basis}
use Rattle.seat_seal.specs.declared.beside.Beside.{Beside}
use Rattle.seat_seal.specs.declared.comparing.SealFault.{SealFault}
use Rattle.seat_seal.specs.declared.comparing.SealFault.TheVariants.{Carried, Journal}
use Rattle.seat_seal.specs.declared.seal.Sealed.{Sealed as Belonging}
use Rattle.seat_seal.specs.Eras.{is_carried}
use Rattle.seat_seal.specs.Known.{IsKnown, era_known}
use Rattle.seat_desk.specs.Answering.{HasGroundOf}
use Rattle.seat_desk.specs.Loading.{Bytes, IsBehind}
use Rattle.seat_desk.specs.Sealing.{basis_of}
use Rattle.seat_desk.specs.declared.inputs.Inputs.{Inputs}
use Rattle.seat_desk.specs.declared.fault.DeskFault.{DeskFault}
use Rattle.seat_desk.specs.declared.fault.DeskFault.TheVariants as desk
use Rattle.seat_seal.specs.Rules.{IsSeal}
use Rattle.seat_seal.specs.Text.{seal_text}
use Rattle.seat_seal.specs.declared.seal.Seal.{Seal}
use Rattle.seat_seal.specs.declared.seal.SealEntry.TheVariants.{Sealed}
use Rattle.seat_restoring.specs.Restoring.{AreBytes}

-- nothing is wrong with what stands there, or that alone that the bytes are another journal's, and lines were sealed
abbrev pub is_passed : Option Belonging → Option SealFault → Bool
is_passed known None = true
is_passed known (Some Journal) = is_some known
is_passed known (Some fault) = false

-- the fault for which a journal is refused: the first of what stands beside it, unless that is passed; and behind it, that its bookings were carried
abbrev pub refusal : Option Belonging → Option SealFault → Option SealFault
refusal known fault =
    if not (is_passed known fault) then fault
    else if is_carried (era_known known) then Some Carried
    else None

-- a journal of these bytes is not refused on this basis
pub record Passes (beside : Beside) (basis : Basis) (file : List ℕ) : Type 0 where
  pub first : Option SealFault
  pub is_first : IsFaultBeside beside basis file first
  pub known : Option Belonging
  pub is_known : IsKnown beside file known
  pub none : refusal known first ≡ None

-- it is refused
pub record Differs (beside : Beside) (basis : Basis) (file : List ℕ) (fault : DeskFault) : Type 0 where
  pub first : Option SealFault
  pub is_first : IsFaultBeside beside basis file first
  pub known : Option Belonging
  pub is_known : IsKnown beside file known
  pub told : SealFault
  pub refused : refusal known first ≡ Some told
  pub is : fault ≡ desk.Seal told

-- ---- a seal of one entry

-- the entry of a journal of which more is known than its bytes, and no other
pub record IsOneEntry (seal : Seal) : Type 0 where
  pub entry : Belonging
  pub first : seal.first ≡ Sealed entry
  pub none : seal.second ≡ None

-- such a seal stands there
pub record HasOneEntry (beside : Beside) : Type 0 where
  pub seal : Seal
  pub is_seal : IsSeal seal
  pub is_text : option_map (λ text. text.now) beside.text ≡ Some (seal_text seal)
  pub one : IsOneEntry seal

-- the first fault of what stands there; or of such a seal the one beside a journal without a byte
abbrev pub IsFaultAhead : Beside → Basis → List ℕ → Option SealFault → Type 0
IsFaultAhead beside basis file fault = IsFaultBeside beside basis file fault ⊎ (HasOneEntry beside × IsFaultBeside beside basis [] fault)

-- of a file with the bytes that are known
pub record IsPassed (beside : Beside) (basis : Basis) (old : Option (List ℕ)) : Type 0 where
  pub file : List ℕ
  pub is_file : AreBytes old file
  pub passes : Passes beside basis file

pub record IsDenied (beside : Beside) (basis : Basis) (old : Option (List ℕ)) (fault : DeskFault) : Type 0 where
  pub file : List ℕ
  pub is_file : AreBytes old file
  pub differs : Differs beside basis file fault

-- what holds of the digests of a set and limits with the bytes that are known, and of the days
abbrev pub OfBasis : {S L : Type 0} → Bytes S → Bytes L → Inputs S L → (Basis → Type 0) → Type 0
OfBasis set limits inputs Holds =
    IfSome (set inputs.set) (λ xs. IfSome (limits inputs.limits)
    (λ ys. Holds (basis_of xs ys inputs.first inputs.days)))

-- behind a set and limits that are right
abbrev pub IsDeniedOver : {S L : Type 0} → Beside → Bytes S → Bytes L → Inputs S L → Option (List ℕ) → DeskFault → Type 0
IsDeniedOver beside set limits inputs old fault =
    IsBehind (HasGroundOf set limits inputs) (OfBasis set limits inputs (λ basis. IsDenied beside basis old fault))
