-- Which input failed.
use Rattle.std.proofs.Common.{◌≡◌, ℕ, Bool, true, false, List, Option, Some, None, IfSome, sym, subst, inl, inr}
use Rattle.ssim_flights.specs.declared.flight.Flight.{Flight as Flown}
use Rattle.seat_limits.specs.declared.limit_row.LimitRow.{LimitRow}
use Rattle.seat_nesting.specs.Nesting.{Ladders}
use Rattle.seat_desk.specs.Answering.{HasFirstFailed, HasGround, HasGroundOf}
use Rattle.seat_desk.specs.Desk.{HasFailed}
use Rattle.seat_desk.specs.Loading.{Bytes, HasFirstLoadFailed, IsGround, IsGroundOf}
use Rattle.seat_desk.specs.Sealing.{IsBesideFault}
use Rattle.seat_desk.specs.declared.fault.DeskFault.{DeskFault}
use Rattle.seat_desk.specs.declared.fault.DeskFault.TheVariants as desk
use Rattle.seat_desk.specs.declared.inputs.Inputs.{Inputs}
use Rattle.seat_seal.specs.declared.beside.Basis.{Basis}
use Rattle.seat_seal.specs.declared.beside.Beside.{Beside}
use Rattle.carry_plans.specs.Carries.{IsUnmade, IsUnread}
use Rattle.carry_plans.specs.Failing.{HasFailedBy, HasFailedIn, HasOldFailed}
use Rattle.carry_plans.specs.declared.asked.CarryAsked.{CarryAsked}
use Rattle.carry_plans.specs.declared.fault.CarryFault.{CarryFault}
use Rattle.carry_plans.specs.declared.fault.CarryFault.TheVariants.{Season, Unsealed, Row, Over, Full, Memory}

-- ---- what is right

ground_in : (set limits : Option (List ℕ)) (first days : ℕ) (flights : List Flown) (rows : List LimitRow)
    → IfSome set (λ xs. IfSome limits (λ ys. IsGround xs ys first days flights rows))
    → IfSome set (λ xs. IfSome limits (HasGround first days xs))
ground_in (Some xs) (Some ys) first days flights rows is = record { flights = flights; rows = rows; is_ground = is }
ground_in (Some xs) None first days flights rows is = tt
ground_in None limits first days flights rows is = tt

ground_of : {S L : Type 0} (set : Bytes S) (limits : Bytes L) (inputs : Inputs S L) (flights : List Flown) (rows : List LimitRow)
    → IsGroundOf set limits inputs flights rows → HasGroundOf set limits inputs
ground_of set limits inputs flights rows is = ground_in (set inputs.set) (limits inputs.limits) inputs.first inputs.days flights rows is

-- ---- the old season and the journal

module _ {S L J : Type 0} (set : Bytes S) (limits : Bytes L) (of_set : S → ℕ) (of_limits : L → ℕ) (of_journal : J → ℕ) (from from_new : Inputs S L)
    (journal journal_new : J) where
  pub failed_load : (f : CarryFault) (fault : DeskFault) → f ≡ Season (record { is_new = false; fault = fault })
      → (fault ≡ desk.Device → HasFirstLoadFailed set of_set of_limits from from_new)
      → HasOldFailed set limits of_set of_limits of_journal from from_new journal journal_new f
  failed_load f fault same failed =
      subst (HasOldFailed set limits of_set of_limits of_journal from from_new journal journal_new) (sym same) (λ (e : fault ≡ desk.Device). inl (failed e))

  pub failed_journal : (f : CarryFault) (fault : DeskFault) (flights : List Flown) (rows : List LimitRow)
      → f ≡ Season (record { is_new = false; fault = fault }) → IsGroundOf set limits from flights rows
      → (fault ≡ desk.Device → HasFailed of_journal journal journal_new)
      → HasOldFailed set limits of_set of_limits of_journal from from_new journal journal_new f
  failed_journal f fault flights rows same ground failed =
      subst (HasOldFailed set limits of_set of_limits of_journal from from_new journal journal_new) (sym same)
      (λ (e : fault ≡ desk.Device). inr (record { ahead = ground_of set limits from flights rows ground; here = failed e }))

  pub failed_seal : (f : CarryFault) (fault : DeskFault) (beside : Beside) (basis : Basis) (bytes : List ℕ)
      → f ≡ Season (record { is_new = false; fault = fault }) → IsBesideFault beside basis bytes fault
      → HasOldFailed set limits of_set of_limits of_journal from from_new journal journal_new f
  failed_seal f fault beside basis bytes same wrong =
      subst (HasOldFailed set limits of_set of_limits of_journal from from_new journal journal_new) (sym same)
      (λ (e : fault ≡ desk.Device). absurd (subst (IsBesideFault beside basis bytes) e wrong))

  pub failed_unsealed : (f : CarryFault) → f ≡ Unsealed → HasOldFailed set limits of_set of_limits of_journal from from_new journal journal_new f
  failed_unsealed f same = subst (HasOldFailed set limits of_set of_limits of_journal from from_new journal journal_new) (sym same) tt

-- ---- both seasons

module _ {S L J : Type 0} (set : Bytes S) (limits : Bytes L) (of_set : S → ℕ) (of_limits : L → ℕ) (of_journal : J → ℕ)
    (from from_new to to_new : Inputs S L) (journal journal_new : J) where
  pub failed_new : (f : CarryFault) (fault : DeskFault) → f ≡ Season (record { is_new = true; fault = fault })
      → (fault ≡ desk.Device → HasFirstLoadFailed set of_set of_limits to to_new)
      → HasFailedIn set limits of_set of_limits of_journal from from_new to to_new journal journal_new f
  failed_new f fault same failed =
      subst (HasFailedIn set limits of_set of_limits of_journal from from_new to to_new journal journal_new) (sym same) failed

  behind_new : (n : Bool) → n ≡ false → HasGroundOf set limits to
      → HasFirstFailed set limits of_set of_limits of_journal from from_new journal journal_new
      → HasFailedBy set limits of_set of_limits of_journal from from_new to to_new journal journal_new n
  behind_new n same ground failed =
      subst (HasFailedBy set limits of_set of_limits of_journal from from_new to to_new journal journal_new) (sym same)
      (record { ahead = ground; here = failed })

  pub failed_old : (f : CarryFault) (news : List Flown) (rows : List LimitRow) (text : Option (List ℕ)) (beside : Beside)
      → IsGroundOf set limits to news rows → IsUnread set limits from text beside f
      → HasOldFailed set limits of_set of_limits of_journal from from_new journal journal_new f
      → HasFailedIn set limits of_set of_limits of_journal from from_new to to_new journal journal_new f
  failed_old (Season fault) news rows text beside ground old failed =
      λ (e : fault.fault ≡ desk.Device). behind_new fault.is_new old.is_old (ground_of set limits to news rows ground) (failed e)
  failed_old Unsealed news rows text beside ground old failed = tt
  failed_old (Over lines) news rows text beside ground old failed = tt
  failed_old (Row row) news rows text beside ground old failed = tt
  failed_old Full news rows text beside ground old failed = tt
  failed_old Memory news rows text beside ground old failed = tt

  pub failed_made : (asked : CarryAsked) (news : List Flown) (file : Ladders) (olds : List Flown) (grid : Ladders) (bytes : List ℕ) (f : CarryFault)
      → IsUnmade asked news file olds grid bytes f
      → HasFailedIn set limits of_set of_limits of_journal from from_new to to_new journal journal_new f
  failed_made asked news file olds grid bytes (Season fault) wrong = λ (e : fault.fault ≡ desk.Device). absurd (wrong.kind.0 e)
  failed_made asked news file olds grid bytes Unsealed wrong = tt
  failed_made asked news file olds grid bytes (Over text) wrong = tt
  failed_made asked news file olds grid bytes (Row row) wrong = tt
  failed_made asked news file olds grid bytes Full wrong = tt
  failed_made asked news file olds grid bytes Memory wrong = tt
