-- The flights of a data set, and the grid that limit rows give them.
use Rattle.std.specs.Prelude.{◌≡◌, ◌≤◌, ◌<◌, ◌⊎◌, ℕ, List, length, Option, IfSome, Err}
use Rattle.std.specs.Str.Lines.{lines}
use Rattle.ssim_flights.specs.declared.flight.Flight.{Flight as Flown}
use Rattle.seat_limits.specs.Authorised.{authorised_grid}
use Rattle.seat_limits.specs.LimitRows.{IsLimitText, rows_in}
use Rattle.seat_nesting.specs.Nesting.{Ladders}
use Rattle.seat_limits.specs.declared.limit_fault.LimitFault.{LimitFault}
use Rattle.seat_limits.specs.declared.limit_fault.LimitKind.{LimitKind}
use Rattle.seat_limits.specs.declared.limit_fault.LimitKind.TheVariants as limit_kinds
use Rattle.seat_limits.specs.declared.limit_row.LimitRow.{LimitRow}
use Rattle.seat_desk.specs.CheckDesk.{most_set_bytes}
use Rattle.seat_desk.specs.FlightsDesk.{IsSchedule, IsUnscheduled}
use Rattle.seat_desk.specs.Desk.{HasFailed}
use Rattle.seat_desk.specs.declared.inputs.Inputs.{Inputs}
use Rattle.seat_desk.specs.declared.fault.DeskFault.{DeskFault}
use Rattle.seat_desk.specs.declared.fault.DeskFault.TheVariants.{Set, Flight, Limit, Memory}

-- 16 MiB
abbrev pub most_limit_bytes : ℕ
most_limit_bytes = 16_777_216

-- some limit rows authorise the ladder of each dated leg
pub record IsGridOf (flights : List Flown) (grid : Ladders) : Type 0 where
  pub rows : List LimitRow
  pub is : grid ≡ authorised_grid rows flights

-- each dated leg of the data set's flights has the ladder that the limit rows authorise
pub record IsLoadedGrid (set limits : List ℕ) (first days : ℕ) (flights : List Flown) (grid : Ladders) : Type 0 where
  pub rows : List LimitRow
  pub is_schedule : IsSchedule set first days flights
  pub are_rows : IsLimitText limits rows
  pub grid_is : grid ≡ authorised_grid rows flights

-- and neither is too large
pub record IsLoaded (set limits : List ℕ) (first days : ℕ) (flights : List Flown) (grid : Ladders) : Type 0 where
  pub set_within : length set ≤ most_set_bytes
  pub limits_within : length limits ≤ most_limit_bytes
  pub loaded : IsLoadedGrid set limits first days flights grid

-- what is known of a reader's bytes
abbrev pub Bytes : Type 0 → Type 0
Bytes D = D → Option (List ℕ)

-- where the bytes of both are known
abbrev pub IsLoadedOf : {S L : Type 0} → Bytes S → Bytes L → Inputs S L → List Flown → Ladders → Type 0
IsLoadedOf set limits inputs flights grid =
    IfSome (set inputs.set) (λ xs. IfSome (limits inputs.limits)
    (λ ys. IsLoaded xs ys inputs.first inputs.days flights grid))

-- the desk's fault for one of limit rows
abbrev pub limit_refusal_of : LimitKind → LimitFault → DeskFault
limit_refusal_of limit_kinds.Memory fault = Memory
limit_refusal_of _ fault = Limit fault

abbrev pub limit_refusal : LimitFault → DeskFault
limit_refusal fault = limit_refusal_of fault.kind fault

-- the limits are not too large, and the fault is the first of their rows
pub record AreNoRows (limits : List ℕ) (fault : LimitFault) : Type 0 where
  pub within : length limits ≤ most_limit_bytes
  pub first : rows_in 1 (lines limits) ≡ Err fault

abbrev pub IsUnlimited : List ℕ → DeskFault → Type 0
IsUnlimited limits (Limit fault) = AreNoRows limits fault
IsUnlimited limits _ = ⊥

-- the set is not too large and has flights, but the limits are refused
pub record IsRefusedLimits (set limits : List ℕ) (first days : ℕ) (fault : LimitFault) : Type 0 where
  pub flights : List Flown
  pub set_within : length set ≤ most_set_bytes
  pub is_schedule : IsSchedule set first days flights
  pub wrong : AreNoRows limits fault

-- the fault is the first of the set, of its flights, or of the limits behind a right set
abbrev pub LoadRefusal : List ℕ → List ℕ → ℕ → ℕ → DeskFault → Type 0
LoadRefusal set limits first days (Set fault) = IsUnscheduled first days (Set fault) set
LoadRefusal set limits first days (Flight fault) = IsUnscheduled first days (Flight fault) set
LoadRefusal set limits first days (Limit fault) = IsRefusedLimits set limits first days fault
LoadRefusal set limits first days _ = ⊥

pub record IsRefusedLoad (set limits : List ℕ) (first days : ℕ) (fault : DeskFault) : Type 0 where
  pub refusal : LoadRefusal set limits first days fault

-- the set or the limits are too large
abbrev pub IsTooLargeLoad : List ℕ → List ℕ → Type 0
IsTooLargeLoad set limits = (most_set_bytes < length set) ⊎ (most_limit_bytes < length limits)

-- where the bytes of both are known
abbrev pub IsRefusedLoadOf : {S L : Type 0} → Bytes S → Bytes L → Inputs S L → DeskFault → Type 0
IsRefusedLoadOf set limits inputs fault =
    IfSome (set inputs.set) (λ xs. IfSome (limits inputs.limits)
    (λ ys. IsRefusedLoad xs ys inputs.first inputs.days fault))

abbrev pub IsTooLargeLoadOf : {S L : Type 0} → Bytes S → Bytes L → Inputs S L → Type 0
IsTooLargeLoadOf set limits inputs =
    IfSome (set inputs.set) (λ xs. IfSome (limits inputs.limits) (λ ys. IsTooLargeLoad xs ys))

-- one of the two has failed
abbrev pub HaveFailed : {S L : Type 0} → (S → ℕ) → (L → ℕ) → Inputs S L → Inputs S L → Type 0
HaveFailed of_set of_limits old new = HasFailed of_set old.set new.set ⊎ HasFailed of_limits old.limits new.limits

-- ---- what is right ahead of what is not

-- the set has these flights and the limits are these rows, and neither is too large
pub record IsGround (set limits : List ℕ) (first days : ℕ) (flights : List Flown) (rows : List LimitRow) : Type 0 where
  pub set_within : length set ≤ most_set_bytes
  pub limits_within : length limits ≤ most_limit_bytes
  pub is_schedule : IsSchedule set first days flights
  pub are_rows : IsLimitText limits rows

-- where the bytes of both are known
abbrev pub IsGroundOf : {S L : Type 0} → Bytes S → Bytes L → Inputs S L → List Flown → List LimitRow → Type 0
IsGroundOf set limits inputs flights rows =
    IfSome (set inputs.set) (λ xs. IfSome (limits inputs.limits)
    (λ ys. IsGround xs ys inputs.first inputs.days flights rows))

-- the set is not too large, and has flights
pub record HasSchedule (first days : ℕ) (set : List ℕ) : Type 0 where
  pub flights : List Flown
  pub within : length set ≤ most_set_bytes
  pub is_schedule : IsSchedule set first days flights

-- something is wrong, behind what is right
pub record IsBehind (right wrong : Type 0) : Type 0 where
  pub ahead : right
  pub here : wrong

-- the set is too large, or the limits are behind a right set
abbrev pub IsFirstTooLargeLoad : List ℕ → List ℕ → ℕ → ℕ → Type 0
IsFirstTooLargeLoad set limits first days =
    (most_set_bytes < length set) ⊎ IsBehind (HasSchedule first days set) (most_limit_bytes < length limits)

abbrev pub IsFirstTooLargeLoadOf : {S L : Type 0} → Bytes S → Bytes L → Inputs S L → Type 0
IsFirstTooLargeLoadOf set limits inputs =
    IfSome (set inputs.set) (λ xs. IfSome (limits inputs.limits)
    (λ ys. IsFirstTooLargeLoad xs ys inputs.first inputs.days))

-- the set has failed, or the limits have behind a right set
abbrev pub HasFirstLoadFailed : {S L : Type 0} → Bytes S → (S → ℕ) → (L → ℕ) → Inputs S L → Inputs S L → Type 0
HasFirstLoadFailed set of_set of_limits old new =
    HasFailed of_set old.set new.set
    ⊎ IsBehind (IfSome (set old.set) (HasSchedule old.first old.days)) (HasFailed of_limits old.limits new.limits)
