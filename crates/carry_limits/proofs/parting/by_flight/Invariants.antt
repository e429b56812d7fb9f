-- The bookings so far are in the lists of their flights.
use Rattle.std.proofs.Common.{take}
use Rattle.seat_carrying.specs.Owned.{bookings_of}
use Rattle.carry_limits.specs.ByFlight.{IsByFlight}
use Rattle.carry_limits.proofs.parting.by_flight.Given as goal

abbrev pub invariant-loop-owned : goal.invariant-loop-owned
invariant-loop-owned l = IsByFlight l.by l.flights (bookings_of (take l.owned-index l.live))
