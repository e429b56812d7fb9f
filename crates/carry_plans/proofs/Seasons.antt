-- A season that is read.
use Rattle.std.proofs.Common.{◌≡◌, ℕ, Bool, true, List, refl, sym, subst}
use Rattle.std.specs.Prelude.{IsTrue}
use Rattle.ssim_flights.specs.declared.flight.Flight.{Flight as Flown}
use Rattle.seat_limits.specs.Authorised.{authorised_grid}
use Rattle.seat_limits.specs.declared.limit_row.LimitRow.{LimitRow}
use Rattle.seat_nesting.specs.Nesting.{Ladders}
use Rattle.seat_desk.specs.Desk.{IsOfInput}
use Rattle.seat_desk.specs.Loading.{Bytes, HasFirstLoadFailed, IsFirstTooLargeLoadOf, IsGroundOf, IsRefusedLoadOf}
use Rattle.seat_desk.specs.Sealing.{IsBasisOf}
use Rattle.seat_desk.specs.declared.fault.DeskFault.{DeskFault}
use Rattle.seat_desk.specs.declared.fault.DeskFault.TheVariants as desk
use Rattle.seat_desk.specs.declared.inputs.Inputs.{Inputs}
use Rattle.seat_seal.specs.declared.beside.Basis.{Basis}
use Rattle.carry_limits.proofs.Files.{authorised_has_legs}
use Rattle.carry_limits.specs.Legs.{HasLegsOf}
use Rattle.carry_plans.specs.declared.fault.CarryFault.TheVariants as carry
use Rattle.carry_plans.specs.Joining.{HasSeasonFailed, IsSeason, IsUnreadSeason}
use Rattle.carry_plans.specs.declared.join_fault.JoinFault.TheVariants as joins

pub has_legs : (rows : List LimitRow) (flights : List Flown) (grid : Ladders) → grid ≡ authorised_grid rows flights → HasLegsOf grid flights
has_legs rows flights grid is = subst (λ (g : Ladders). HasLegsOf g flights) (sym is) (authorised_has_legs rows flights)

module _ {S L : Type 0} (set : Bytes S) (limits : Bytes L) (inputs : Inputs S L) where
  pub season_is : (flights : List Flown) (rows : List LimitRow) (grid : Ladders) (basis : Basis) → IsGroundOf set limits inputs flights rows
      → grid ≡ authorised_grid rows flights → (IsTrue true → IsBasisOf set limits inputs basis) → IsSeason set limits inputs flights grid basis
  season_is flights rows grid basis ground is known = record { rows = rows; is_ground = ground; grid_is = is; is_basis = known refl }

  pub unread_season : (is_new : Bool) (fault : DeskFault) → (IsOfInput fault → IsRefusedLoadOf set limits inputs fault)
      → (fault ≡ desk.TooLarge → IsFirstTooLargeLoadOf set limits inputs)
      → IsUnreadSeason set limits inputs is_new (joins.Carry (carry.Season (record { is_new = is_new; fault = fault })))
  unread_season is_new fault refused large = record { of = fault; is = refl; refused = refused; large = large }

  pub failed_season : (of_set : S → ℕ) (of_limits : L → ℕ) (new : Inputs S L) (is_new : Bool) (fault : DeskFault)
      → (fault ≡ desk.Device → HasFirstLoadFailed set of_set of_limits inputs new)
      → HasSeasonFailed set of_set of_limits inputs new is_new (joins.Carry (carry.Season (record { is_new = is_new; fault = fault })))
  failed_season of_set of_limits new is_new fault failed = record { of = fault; is = refl; failed = failed }
