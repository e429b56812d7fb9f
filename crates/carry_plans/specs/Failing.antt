-- Which input of a carry failed, where a device is at fault.
use Rattle.std.specs.Prelude.{◌≡◌, ℕ, Bool, true, false}
use Rattle.seat_desk.specs.Answering.{HasFirstFailed, HasGroundOf}
use Rattle.seat_desk.specs.Loading.{Bytes, HasFirstLoadFailed, IsBehind}
use Rattle.seat_desk.specs.declared.fault.DeskFault.TheVariants.{Device}
use Rattle.seat_desk.specs.declared.inputs.Inputs.{Inputs}
use Rattle.carry_plans.specs.declared.fault.CarryFault.{CarryFault}
use Rattle.carry_plans.specs.declared.fault.CarryFault.TheVariants.{Season, Unsealed, Row, Over, Full, Memory}

-- where a device is at fault of the old season: the first input of it and of the journal that was not read and right has failed
abbrev pub HasOldFailed : {S L J : Type 0} → Bytes S → Bytes L → (S → ℕ) → (L → ℕ) → (J → ℕ) → Inputs S L → Inputs S L → J → J → CarryFault → Type 0
HasOldFailed set limits of_set of_limits of_journal from from_new journal journal_new (Season fault) =
    fault.fault ≡ Device → HasFirstFailed set limits of_set of_limits of_journal from from_new journal journal_new
HasOldFailed set limits of_set of_limits of_journal from from_new journal journal_new Unsealed = Unit {0}
HasOldFailed set limits of_set of_limits of_journal from from_new journal journal_new (Over text) = Unit {0}
HasOldFailed set limits of_set of_limits of_journal from from_new journal journal_new (Row f) = Unit {0}
HasOldFailed set limits of_set of_limits of_journal from from_new journal journal_new Full = Unit {0}
HasOldFailed set limits of_set of_limits of_journal from from_new journal journal_new Memory = Unit {0}

-- the first input of the new season that was not read and right has failed; or behind a new season that is right one of the old one or the journal
abbrev pub HasFailedBy : {S L J : Type 0} → Bytes S → Bytes L → (S → ℕ) → (L → ℕ) → (J → ℕ) → Inputs S L → Inputs S L → Inputs S L → Inputs S L
    → J → J → Bool → Type 0
HasFailedBy set limits of_set of_limits of_journal from from_new to to_new journal journal_new true =
    HasFirstLoadFailed set of_set of_limits to to_new
HasFailedBy set limits of_set of_limits of_journal from from_new to to_new journal journal_new false =
    IsBehind (HasGroundOf set limits to) (HasFirstFailed set limits of_set of_limits of_journal from from_new journal journal_new)

-- where a device is at fault, that is the input
abbrev pub HasFailedIn : {S L J : Type 0} → Bytes S → Bytes L → (S → ℕ) → (L → ℕ) → (J → ℕ) → Inputs S L → Inputs S L → Inputs S L → Inputs S L
    → J → J → CarryFault → Type 0
HasFailedIn set limits of_set of_limits of_journal from from_new to to_new journal journal_new (Season fault) =
    fault.fault ≡ Device → HasFailedBy set limits of_set of_limits of_journal from from_new to to_new journal journal_new fault.is_new
HasFailedIn set limits of_set of_limits of_journal from from_new to to_new journal journal_new Unsealed = Unit {0}
HasFailedIn set limits of_set of_limits of_journal from from_new to to_new journal journal_new (Over text) = Unit {0}
HasFailedIn set limits of_set of_limits of_journal from from_new to to_new journal journal_new (Row f) = Unit {0}
HasFailedIn set limits of_set of_limits of_journal from from_new to to_new journal journal_new Full = Unit {0}
HasFailedIn set limits of_set of_limits of_journal from from_new to to_new journal journal_new Memory = Unit {0}
