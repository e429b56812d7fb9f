-- The laws of the limits over which bookings are carried.
use Rattle.std.specs.Prelude.{◌≡◌, ◌≤◌, ◌<◌, ℕ, List, []}
use Rattle.seat_nesting.specs.Nesting.{ladder_at}
use Rattle.seat_rules.specs.Flights.{bookings_on}
use Rattle.seat_rules.specs.Sequential.{state_of}
use Rattle.seat_rules.specs.declared.booking.Booking.{Booking}
use Rattle.seat_carrying.specs.Lifting.{HasRoomAt}
use Rattle.limit_changes.specs.Laws.{AreLadders}
use Rattle.limit_changes.specs.Rows.{cuts_of, raises_of}
use Rattle.limit_changes.specs.declared.legs.NamedLeg.{NamedLeg}
use Rattle.carry_limits.specs.ByFlight.{IsByFlight, Lists}
use Rattle.carry_limits.specs.Legs.{HasLegsOf}
use Rattle.carry_limits.specs.Lifting.{held_on, lifted_limits, waits_on}
use Rattle.carry_limits.specs.Overs.{over_on}
use Rattle.carry_limits.specs.Wanting.{wanted_on}
use Rattle.carry_limits.specs.declared.wanting.Seasons.{Seasons}

-- two carries do the same to a leg: its limits are lifted alike, by the same cuts and the same raises, and it has too few seats by as many, or enough
pub record DoesAlike (s : Seasons) (lists others : Lists) (leg : NamedLeg) : Type 0 where
  pub lifted : ladder_at (lifted_limits s lists) leg.flight leg.leg ≡ ladder_at (lifted_limits s others) leg.flight leg.leg
  pub cuts : cuts_of (lifted_limits s lists) (state_of s.file.now []) leg ≡ cuts_of (lifted_limits s others) (state_of s.file.now []) leg
  pub raises : raises_of (lifted_limits s lists) (state_of s.file.now []) leg ≡ raises_of (lifted_limits s others) (state_of s.file.now []) leg
  pub over : over_on s.file.now lists leg ≡ over_on s.file.now others leg

-- what is done to a leg depends on the bookings of its own flight alone
abbrev pub FlightsOwnBookingsSuffice : Type 0
FlightsOwnBookingsSuffice = (s : Seasons) (lists others : Lists) (flights : ℕ) (live more : List Booking) (leg : NamedLeg)
    → IsByFlight lists flights live → IsByFlight others flights more → leg.flight < flights
    → bookings_on leg.flight live ≡ bookings_on leg.flight more → DoesAlike s lists others leg

-- where the highest rank of a leg's file has the seats that are held there, and at most 999 wait in each class, the lifted limits of the leg nest, have
-- room for all that is held and all that waits, and take nothing from the wanted ones
abbrev pub LiftedLimitsHaveRoom : Type 0
LiftedLimitsHaveRoom = (s : Seasons) (lists : Lists) (leg : NamedLeg) → HasLegsOf s.file.now s.flights.now → AreLadders s.file.now
    → AreLadders s.before.now.grid → over_on s.file.now lists leg ≡ [] → ((class : ℕ) → waits_on lists leg.flight leg.leg class ≤ 999)
    → HasRoomAt (wanted_on s leg.flight leg.leg) (ladder_at (lifted_limits s lists) leg.flight leg.leg) (held_on lists leg.flight leg.leg)
    (waits_on lists leg.flight leg.leg)
