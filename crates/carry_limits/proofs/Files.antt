-- The limits that a file gives to flights are of these flights.
use Rattle.std.proofs.Common.{◌≡◌, ℕ, List, [], length, map, Option, Some, None, refl, ap, ◌∙◌}
use Rattle.std.specs.Option.{option_map, unwrap_or}
use Rattle.std.specs.Prelude.{slice_get}
use Rattle.std.proofs.lemmas.List.{length-map}
use Rattle.std.proofs.lemmas.Option.{slice_get-map}
use Rattle.ssim_flights.specs.declared.flight.DatedLeg.{DatedLeg}
use Rattle.ssim_flights.specs.declared.flight.Flight.{Flight as Flown}
use Rattle.seat_nesting.specs.Nesting.{Steps}
use Rattle.seat_limits.specs.Authorised.{authorised, authorised_grid, authorised_legs, leg_pair}
use Rattle.seat_limits.specs.declared.limit_row.LimitRow.{LimitRow}
use Rattle.carry_limits.specs.Legs.{HasLegsOf, run_in}

pub authorised_has_legs : (rows : List LimitRow) (flights : List Flown) → HasLegsOf (authorised_grid rows flights) flights
authorised_has_legs rows flights = record {
  each = λ flight.
      ap (λ (o : Option (List Steps)). length (unwrap_or o [])) (slice_get-map (authorised_legs rows) flights flight)
      ∙ by (slice_get flights flight);
}
  where
    by : (o : Option Flown) → length (unwrap_or (option_map (authorised_legs rows) o) []) ≡ length (run_in o)
    by None = refl
    by (Some x) = length-map x.legs (λ (leg : DatedLeg). authorised rows (leg_pair x leg) leg.day)
