use Rattle.std.proofs.Common.{◌≡◌, ◌+◌, nat_le, drop}
use Rattle.seat_bookings.specs.Demands.{waits_of}
use Rattle.seat_bookings.proofs.rooms.fits_waiting.Given as goal

abbrev pub invariant-loop-demand : goal.invariant-loop-demand
invariant-loop-demand l =
    nat_le (waits_of (drop l.demand-index l.demands) l.flight l.leg l.class + l.seats) l.left ≡ nat_le (waits_of l.demands l.flight l.leg l.class + l.seats) l.most
