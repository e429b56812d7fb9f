-- What a seal knows of the journal beside it.
use Rattle.std.specs.Prelude.{◌≡◌, ◌⊎◌, ℕ, List, [], Option, None, Some, option_map}
use Rattle.seat_seal.specs.declared.beside.Beside.{Beside}
use Rattle.seat_seal.specs.declared.era.Era.{Era}
use Rattle.seat_seal.specs.declared.known.Carried.{Carried}
use Rattle.seat_seal.specs.declared.run.Run.{Run}
use Rattle.seat_seal.specs.declared.seal.Seal.{Seal}
use Rattle.seat_seal.specs.declared.seal.Sealed.{Sealed as Belonging}
use Rattle.seat_seal.specs.declared.seal.SealEntry.{SealEntry}
use Rattle.seat_seal.specs.declared.seal.SealEntry.TheVariants.{Sealed, Other}
use Rattle.seat_seal.specs.Besides.{entry_of}
use Rattle.seat_seal.specs.Eras.{first_era}
use Rattle.seat_seal.specs.Rules.{IsSeal}
use Rattle.seat_seal.specs.Text.{seal_text}

-- what an entry says of its journal, where more than the journal's bytes is known
abbrev pub known_in : SealEntry → Option Belonging
known_in (Sealed entry) = Some entry
known_in (Other imprint) = None

-- the text is that of a seal, and this is known by the entry of it that is compared
pub record IsKnownBy (text journal : List ℕ) (known : Option Belonging) : Type 0 where
  pub seal : Seal
  pub is_seal : IsSeal seal
  pub is_text : text ≡ seal_text seal
  pub known_is : known ≡ known_in (entry_of seal journal)

-- nothing is known where no seal has the text
pub record IsKnownByNone (text : List ℕ) (known : Option Belonging) : Type 0 where
  pub none : (seal : Seal) → IsSeal seal → text ≡ seal_text seal → ⊥
  pub nothing : known ≡ None

abbrev pub IsKnownFrom : Option (List ℕ) → List ℕ → Option Belonging → Type 0
IsKnownFrom None journal known = known ≡ None
IsKnownFrom (Some text) journal known = IsKnownByNone text known ⊎ IsKnownBy text journal known

-- what the seal beside a journal knows of it
abbrev pub IsKnown : Beside → List ℕ → Option Belonging → Type 0
IsKnown beside journal known = IsKnownFrom (option_map (λ text. text.now) beside.text) journal known

-- the runs that are known
abbrev pub runs_known : Option Belonging → List Run
runs_known None = []
runs_known (Some entry) = entry.runs

-- the runs that the seal beside a journal knows
pub record AreRunsOf (beside : Beside) (journal : List ℕ) (runs : List Run) : Type 0 where
  pub known : Option Belonging
  pub is_known : IsKnown beside journal known
  pub runs_are : runs ≡ runs_known known

-- the era that is known
abbrev pub era_known : Option Belonging → Era
era_known None = first_era
era_known (Some entry) = entry.era

-- the era that the seal beside a journal knows
pub record IsEraOf (beside : Beside) (journal : List ℕ) (era : Era) : Type 0 where
  pub known : Option Belonging
  pub is_known : IsKnown beside journal known
  pub era_is : era ≡ era_known known

-- what the seal of a journal that goes on from another takes of what is known of that one
abbrev pub carried_by : Option Belonging → Carried
carried_by known = record { runs = runs_known known; era = era_known known }

-- of what the seal beside a journal knows
pub record IsCarried (beside : Beside) (journal : List ℕ) (carried : Carried) : Type 0 where
  pub known : Option Belonging
  pub is_known : IsKnown beside journal known
  pub carried_is : carried ≡ carried_by known

-- the law: what is known is one
abbrev pub OneIsKnown : Type 0
OneIsKnown =
    (beside : Beside) (journal : List ℕ) (a b : Option Belonging) → IsKnown beside journal a → IsKnown beside journal b → a ≡ b
