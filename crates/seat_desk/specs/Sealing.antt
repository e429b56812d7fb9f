-- What a seal beside a journal is compared with.
use Rattle.std.specs.Prelude.{◌≡◌, ℕ, List, None, Some, IfSome}
use Rattle.sha2.specs.Sha256.{sha256}
use Rattle.seat_seal.specs.Besides.{IsFaultBeside}
use Rattle.seat_seal.specs.declared.beside.Basis.{Basis}
use Rattle.seat_seal.specs.declared.beside.Beside.{Beside}
use Rattle.seat_desk.specs.Loading.{Bytes}
use Rattle.seat_desk.specs.declared.inputs.Inputs.{Inputs}
use Rattle.seat_desk.specs.declared.fault.DeskFault.{DeskFault}
use Rattle.seat_desk.specs.declared.fault.DeskFault.TheVariants.{Seal}

-- the digests of the bytes of a set and of limit rows, and the days
abbrev pub basis_of : List ℕ → List ℕ → ℕ → ℕ → Basis
basis_of set limits first days = record { set = sha256 set; limits = sha256 limits; first = first; days = days }

-- where the bytes of both are known
abbrev pub IsBasisOf : {S L : Type 0} → Bytes S → Bytes L → Inputs S L → Basis → Type 0
IsBasisOf set limits inputs basis =
    IfSome (set inputs.set) (λ xs. IfSome (limits inputs.limits)
    (λ ys. basis ≡ basis_of xs ys inputs.first inputs.days))

-- the command's fault is the first of what stands beside a journal
abbrev pub IsBesideFault : Beside → Basis → List ℕ → DeskFault → Type 0
IsBesideFault beside basis journal (Seal fault) = IsFaultBeside beside basis journal (Some fault)
IsBesideFault beside basis journal _ = ⊥

-- what stands beside the journal has no fault: a seal that agrees with it all, or nothing where there need be none
pub record Agrees (beside : Beside) (set limits : List ℕ) (first days : ℕ) (journal : List ℕ) : Type 0 where
  pub faultless : IsFaultBeside beside (basis_of set limits first days) journal None
