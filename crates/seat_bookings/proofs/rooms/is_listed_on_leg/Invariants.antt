use Rattle.std.proofs.Common.{◌≡◌, drop}
use Rattle.seat_nesting.specs.Nesting.{is_listed_on}
use Rattle.seat_bookings.proofs.rooms.is_listed_on_leg.Given as goal

abbrev pub invariant-loop-step : goal.invariant-loop-step
invariant-loop-step l = is_listed_on (drop l.step-index l.steps) l.class ≡ is_listed_on l.steps l.class
