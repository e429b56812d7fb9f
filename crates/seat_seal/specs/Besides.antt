-- What stands beside a journal, and the first fault of it.
use Rattle.std.specs.Prelude.{◌≡◌, ◌⊎◌, ℕ, Bool, if◌then◌else◌, List, Option, None, Some, option_map}
use Rattle.airline_base.specs.Days.{IsDate}
use Rattle.seat_seal.specs.declared.beside.Basis.{Basis}
use Rattle.seat_seal.specs.declared.beside.Beside.{Beside}
use Rattle.seat_seal.specs.declared.comparing.Given.{Given}
use Rattle.seat_seal.specs.declared.comparing.SealFault.{SealFault}
use Rattle.seat_seal.specs.declared.comparing.SealFault.TheVariants.{Form, Journal, Missing}
use Rattle.seat_seal.specs.declared.seal.SealEntry.{SealEntry}
use Rattle.seat_seal.specs.declared.seal.SealEntry.TheVariants.{Sealed, Other}
use Rattle.seat_seal.specs.declared.seal.Seal.{Seal}
use Rattle.seat_seal.specs.Comparing.{compared, is_its_journal, same_imprint}
use Rattle.seat_seal.specs.Imprints.{imprint_of}
use Rattle.seat_seal.specs.Rules.{IsSeal}
use Rattle.seat_seal.specs.Text.{seal_text}

-- what a seal is compared with: the basis, its day as a date
pub record IsGiven (basis : Basis) (given : Given) : Type 0 where
  pub set : given.set ≡ basis.set
  pub limits : given.limits ≡ basis.limits
  pub first : IsDate given.first.year given.first.month given.first.day basis.first
  pub days : given.days ≡ basis.days

-- the first of two entries where the journal is its, or else the second
abbrev pub entry_among : SealEntry → Option SealEntry → List ℕ → SealEntry
entry_among first None journal = first
entry_among first (Some second) journal = if is_its_journal first journal then first else second

-- the entry that is compared
abbrev pub entry_of : Seal → List ℕ → SealEntry
entry_of s journal = entry_among s.first s.second journal

-- of a journal of which nothing else is known all bytes are compared
abbrev pub entry_fault : SealEntry → Given → List ℕ → Option SealFault
entry_fault (Sealed e) given journal = compared e given journal
entry_fault (Other i) given journal = if same_imprint i (imprint_of journal) then None else Some Journal

abbrev pub seal_fault : Seal → Given → List ℕ → Option SealFault
seal_fault s given journal = entry_fault (entry_of s journal) given journal

-- the text is that of a seal, and this is the first in which it differs
pub record IsDifference (text : List ℕ) (basis : Basis) (journal : List ℕ) (fault : Option SealFault) : Type 0 where
  pub seal : Seal
  pub is_seal : IsSeal seal
  pub is_text : text ≡ seal_text seal
  pub given : Given
  pub is_given : IsGiven basis given
  pub is_first : fault ≡ seal_fault seal given journal

-- no seal has the text
pub record IsNoSeal (text : List ℕ) (fault : Option SealFault) : Type 0 where
  pub none : (seal : Seal) → IsSeal seal → text ≡ seal_text seal → ⊥
  pub is_form : fault ≡ Some Form

abbrev pub missing : Bool → Option SealFault
missing is_wanted = if is_wanted then Some Missing else None

abbrev pub IsFaultOfText : List ℕ → Basis → List ℕ → Option SealFault → Type 0
IsFaultOfText text basis journal fault = IsNoSeal text fault ⊎ IsDifference text basis journal fault

abbrev pub IsFaultFrom : Bool → Option (List ℕ) → Basis → List ℕ → Option SealFault → Type 0
IsFaultFrom is_wanted None basis journal fault = fault ≡ missing is_wanted
IsFaultFrom is_wanted (Some text) basis journal fault = IsFaultOfText text basis journal fault

-- the first fault of what stands beside a journal, or none
abbrev pub IsFaultBeside : Beside → Basis → List ℕ → Option SealFault → Type 0
IsFaultBeside beside basis journal fault =
    IsFaultFrom beside.is_wanted (option_map (λ text. text.now) beside.text) basis journal fault
