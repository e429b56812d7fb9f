-- Which input failed.
use Rattle.std.proofs.Common.{◌≡◌, ℕ, true, false, List, Option, refl, sym, subst}
use Rattle.ssim_flights.specs.declared.flight.Flight.{Flight as Flown}
use Rattle.seat_nesting.specs.Nesting.{Ladders}
use Rattle.seat_desk.specs.Loading.{Bytes}
use Rattle.seat_desk.specs.declared.fault.DeskFault.TheVariants as desk
use Rattle.seat_desk.specs.declared.inputs.Inputs.{Inputs}
use Rattle.seat_seal.specs.declared.beside.Basis.{Basis}
use Rattle.seat_seal.specs.declared.beside.Beside.{Beside}
use Rattle.carry_plans.specs.declared.asked.CarryAsked.{CarryAsked}
use Rattle.carry_plans.specs.declared.fault.CarryFault.TheVariants as carry
use Rattle.carry_plans.specs.Joining.{HasCarryFailed, HasJoinFailed, HasSeasonFailed, IsSeason, IsUnmadeOfRead}
use Rattle.carry_plans.specs.Knowing.{HasFailedReading, IsReadingFault}
use Rattle.carry_plans.specs.declared.join_fault.JoinFault.{JoinFault}
use Rattle.carry_plans.specs.declared.join_fault.JoinFault.TheVariants as joins
use Rattle.carry_plans.proofs.Onto.{ground_of}

module _ {S L J : Type 0} (set : Bytes S) (limits : Bytes L) (of_set : S → ℕ) (of_limits : L → ℕ) (of_journal : J → ℕ)
    (from from_new to to_new : Inputs S L) (besides : List Beside) (texts : List (Option (List ℕ))) (olds news : List J) where
  pub failed_new : (f : JoinFault) → HasSeasonFailed set of_set of_limits to to_new true f
      → HasJoinFailed set limits of_set of_limits of_journal from from_new to to_new besides texts olds news f
  failed_new f failed =
      subst (HasJoinFailed set limits of_set of_limits of_journal from from_new to to_new besides texts olds news) (sym failed.is) failed.failed

  module _ (flights : List Flown) (file : Ladders) (basis : Basis) (new : IsSeason set limits to flights file basis) where
    pub failed_old : (f : JoinFault) → HasSeasonFailed set of_set of_limits from from_new false f
        → HasJoinFailed set limits of_set of_limits of_journal from from_new to to_new besides texts olds news f
    failed_old f failed =
        subst (HasJoinFailed set limits of_set of_limits of_journal from from_new to to_new besides texts olds news) (sym failed.is)
        (λ (e : failed.of ≡ desk.Device). (ground_of set limits to flights file basis new, failed.failed e))

    pub failed_journal : (old_flights : List Flown) (grid : Ladders) (under : Basis) (f : JoinFault)
        → IsSeason set limits from old_flights grid under → IsReadingFault f
        → (f ≡ joins.Device → HasFailedReading under besides texts of_journal olds news)
        → HasJoinFailed set limits of_set of_limits of_journal from from_new to to_new besides texts olds news f
    failed_journal old_flights grid under joins.Device old kind failed = record {
      new_is_right = ground_of set limits to flights file basis new;
      old_is_right = ground_of set limits from old_flights grid under old;
      under = under;
      is_basis = old.is_basis;
      failed = failed refl;
    }
    failed_journal old_flights grid under (joins.Carry fault) old kind failed =
        subst (HasCarryFailed set limits of_set of_limits from from_new to to_new) (sym kind) tt
    failed_journal old_flights grid under (joins.Beside at fault) old kind failed = tt
    failed_journal old_flights grid under (joins.Unsealed at) old kind failed = tt
    failed_journal old_flights grid under (joins.Journals fault) old kind failed = tt

  pub failed_made : (asked : CarryAsked) (flights : List Flown) (file : Ladders) (old_flights : List Flown) (grid : Ladders) (read : List (List ℕ))
      (f : JoinFault) → IsUnmadeOfRead asked flights file old_flights grid read f
      → HasJoinFailed set limits of_set of_limits of_journal from from_new to to_new besides texts olds news f
  failed_made asked flights file old_flights grid read (joins.Carry (carry.Season fault)) wrong = absurd wrong
  failed_made asked flights file old_flights grid read (joins.Carry carry.Unsealed) wrong = tt
  failed_made asked flights file old_flights grid read (joins.Carry (carry.Row row)) wrong = tt
  failed_made asked flights file old_flights grid read (joins.Carry (carry.Over lines)) wrong = tt
  failed_made asked flights file old_flights grid read (joins.Carry carry.Full) wrong = tt
  failed_made asked flights file old_flights grid read (joins.Carry carry.Memory) wrong = tt
  failed_made asked flights file old_flights grid read (joins.Journals fault) wrong = tt
  failed_made asked flights file old_flights grid read (joins.Beside at fault) wrong = tt
  failed_made asked flights file old_flights grid read (joins.Unsealed at) wrong = tt
  failed_made asked flights file old_flights grid read joins.Device wrong = absurd wrong
