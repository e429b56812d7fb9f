-- What `audit --shards` answers to a data set, limit rows and journals of hosts that have different flights.
use Rattle.std.specs.Prelude.{◌≡◌, ◌⊎◌, ℕ, List, map, Option, IfSome}
use Rattle.ssim_flights.specs.declared.flight.Flight.{Flight as Flown}
use Rattle.seat_limits.specs.Authorised.{authorised_grid}
use Rattle.seat_limits.specs.declared.limit_row.LimitRow.{LimitRow}
use Rattle.seat_rules.specs.declared.totals.Totals.{Totals}
use Rattle.seat_desk.specs.AuditDesk.{audit_line}
use Rattle.seat_desk.specs.Loading.{Bytes, HasFirstLoadFailed, IsGround, IsRefusedLoad}
use Rattle.seat_desk.specs.declared.inputs.Inputs.{Inputs}
use Rattle.seat_shards.specs.declared.fault.ShardFault.{ShardFault}
use Rattle.seat_shards.specs.declared.fault.ShardFault.TheVariants.{Desk}
use Rattle.seat_shards.specs.Taking.{known, AreTotalled, HasFailedAmong, IsFirstRefused}

-- the journals come to this over the flights and limit rows of these inputs
pub record IsTotalled (set limits : List ℕ) (first days : ℕ) (journals : List (List ℕ)) (totals : Totals) : Type 0 where
  pub flights : List Flown
  pub rows : List LimitRow
  pub is_ground : IsGround set limits first days flights rows
  pub are_totalled : AreTotalled (authorised_grid rows flights) journals totals

-- where the bytes of all inputs are known
abbrev pub IsTotalledOf : {S L : Type 0} → Bytes S → Bytes L → Inputs S L → List (Option (List ℕ)) → Totals → Type 0
IsTotalledOf set limits inputs journals totals =
    IfSome (set inputs.set) (λ xs. IfSome (limits inputs.limits)
    (λ ys. IfSome (known journals) (λ zs. IsTotalled xs ys inputs.first inputs.days zs totals)))

-- the line says what they come to
pub record IsShardsAnswer (set limits : List ℕ) (first days : ℕ) (journals : List (List ℕ)) (line : List ℕ) : Type 0 where
  pub totals : Totals
  pub is : IsTotalled set limits first days journals totals
  pub says : line ≡ audit_line totals

abbrev pub IsShardsAnswerOf : {S L : Type 0} → Bytes S → Bytes L → Inputs S L → List (Option (List ℕ)) → List ℕ → Type 0
IsShardsAnswerOf set limits inputs journals line =
    IfSome (set inputs.set) (λ xs. IfSome (limits inputs.limits)
    (λ ys. IfSome (known journals) (λ zs. IsShardsAnswer xs ys inputs.first inputs.days zs line)))

-- the first of the journals that is refused over the flights and limit rows of these inputs is refused so
pub record IsRefusedOver (set limits : List ℕ) (first days : ℕ) (journals : List (List ℕ)) (fault : ShardFault) : Type 0 where
  pub flights : List Flown
  pub rows : List LimitRow
  pub is_ground : IsGround set limits first days flights rows
  pub refused : IsFirstRefused (authorised_grid rows flights) journals fault

-- the fault is that of the set, of its flights or of the limits, or else of the first journal that is refused
abbrev pub IsRefusedShards : List ℕ → List ℕ → ℕ → ℕ → List (List ℕ) → ShardFault → Type 0
IsRefusedShards set limits first days journals (Desk fault) = IsRefusedLoad set limits first days fault
IsRefusedShards set limits first days journals fault = IsRefusedOver set limits first days journals fault

abbrev pub IsRefusedShardsOf : {S L : Type 0} → Bytes S → Bytes L → Inputs S L → List (Option (List ℕ)) → ShardFault → Type 0
IsRefusedShardsOf set limits inputs journals fault =
    IfSome (set inputs.set) (λ xs. IfSome (limits inputs.limits)
    (λ ys. IfSome (known journals) (λ zs. IsRefusedShards xs ys inputs.first inputs.days zs fault)))

-- the set and the limits are right, and the first journal that was not taken over them has failed
pub record IsFirstFailed {J : Type 0} (set limits : List ℕ) (first days : ℕ) (remaining : Bytes J) (failures : J → ℕ) (olds news : List J) : Type 0 where
  pub flights : List Flown
  pub rows : List LimitRow
  pub is_ground : IsGround set limits first days flights rows
  pub failed : HasFailedAmong (authorised_grid rows flights) (map remaining olds) failures olds news

-- the first of the inputs that was not read and right has failed
abbrev pub HasFirstFailed : {S L J : Type 0} → Bytes S → Bytes L → (S → ℕ) → (L → ℕ) → Bytes J → (J → ℕ) → Inputs S L → Inputs S L
    → List J → List J → Type 0
HasFirstFailed set limits of_set of_limits remaining of_journal old new olds news =
    HasFirstLoadFailed set of_set of_limits old new
    ⊎ IfSome (set old.set) (λ xs. IfSome (limits old.limits)
    (λ ys. IsFirstFailed xs ys old.first old.days remaining of_journal olds news))
