-- What is done to a leg depends on the bookings of its own flight alone.
use Rattle.std.proofs.Common.{◌≡◌, ◌<◌, ℕ, [], List, Option, map, if◌then◌else◌, min, nat_lt, ◌∷◌, ap, sym, ◌∙◌}
use Rattle.std.specs.Option.{option_map, unwrap_or}
use Rattle.std.specs.Prelude.{slice_get}
use Rattle.ssim_flights.specs.declared.flight.DatedLeg.{DatedLeg}
use Rattle.seat_nesting.specs.Nesting.{Ladders, Steps, held_from, ladder_at}
use Rattle.seat_rules.specs.Bookings.{held, waiting}
use Rattle.seat_rules.specs.Flights.{bookings_on}
use Rattle.seat_rules.specs.Sequential.{State, state_of}
use Rattle.seat_rules.specs.declared.booking.Booking.{Booking}
use Rattle.seat_carrying.specs.Lifting.{lifted, top_of}
use Rattle.limit_changes.specs.Reaching.{changes_down, changes_up, cut_steps, reach_steps}
use Rattle.limit_changes.specs.Rows.{row_of, seats_now, steps_now}
use Rattle.limit_changes.specs.declared.legs.NamedLeg.{NamedLeg}
use Rattle.limit_changes.specs.declared.rows.Row.{Row}
use Rattle.carry_limits.specs.ByFlight.{IsByFlight, Lists, list_at}
use Rattle.carry_limits.specs.Laws.{DoesAlike, FlightsOwnBookingsSuffice}
use Rattle.carry_limits.specs.Legs.{run_of}
use Rattle.carry_limits.specs.Lifting.{lifted_limits, lifted_on}
use Rattle.carry_limits.specs.Overs.{most_counted, over_on, seats_at}
use Rattle.carry_limits.specs.Wanting.{wanted_on}
use Rattle.carry_limits.specs.declared.counting.Over.{Over}
use Rattle.carry_limits.specs.declared.wanting.Seasons.{Seasons}
use Rattle.carry_limits.proofs.Grids.{ladder_rule}

-- a leg on which these bookings hold more than its highest rank has
abbrev over_by : Ladders → NamedLeg → List Booking → List Over
over_by file leg on =
    (if nat_lt (seats_at file leg) (held_from (held on leg.flight leg.leg) (ladder_at file leg.flight leg.leg))
    then record {
      leg = leg;
      held = min most_counted (held_from (held on leg.flight leg.leg) (ladder_at file leg.flight leg.leg));
      seats = seats_at file leg;
    } ∷ []
    else [])

module _ (s : Seasons) (lists others : Lists) (leg : NamedLeg) (same : list_at lists leg.flight ≡ list_at others leg.flight) where
  lifted_same : lifted_on s lists leg.flight leg.leg ≡ lifted_on s others leg.flight leg.leg
  lifted_same =
      ap (λ (on : List Booking). lifted (top_of (ladder_at s.file.now leg.flight leg.leg)) (held on leg.flight leg.leg) (waiting on leg.flight leg.leg)
      (wanted_on s leg.flight leg.leg)) same

  ladder_same : ladder_at (lifted_limits s lists) leg.flight leg.leg ≡ ladder_at (lifted_limits s others) leg.flight leg.leg
  ladder_same =
      ladder_rule (lifted_on s lists) s.flights.now leg.flight leg.leg
      ∙ ap (λ (steps : Steps). unwrap_or (option_map (λ (x : DatedLeg). steps) (slice_get (run_of s.flights.now leg.flight) leg.leg)) []) lifted_same
      ∙ sym (ladder_rule (lifted_on s others) s.flights.now leg.flight leg.leg)

  abbrev empty : State
  empty = state_of s.file.now []

  pub alike : DoesAlike s lists others leg
  alike = record {
    lifted = ladder_same;
    cuts = ap (λ (w : Steps). map (row_of leg) (changes_up (steps_now empty leg) (cut_steps w (seats_now empty leg) (steps_now empty leg)))) ladder_same;
    raises = ap (λ (w : Steps). map (row_of leg) (changes_down (cut_steps w (seats_now empty leg) (steps_now empty leg)) (reach_steps w (seats_now empty leg) (steps_now empty leg)))) ladder_same;
    over = ap (over_by s.file.now leg) same;
  }

pub flights_own_bookings_suffice : FlightsOwnBookingsSuffice
flights_own_bookings_suffice s lists others flights live more leg mine its inside same =
    alike s lists others leg (mine.each leg.flight inside ∙ same ∙ sym (its.each leg.flight inside))
