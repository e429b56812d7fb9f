-- The lines of the bookings so far are written.
use Rattle.std.proofs.Common.{take}
use Rattle.seat_desk.specs.FlightsDesk.{IsPut}
use Rattle.seat_lists.specs.LiveBookings.{IsBookingLine}
use Rattle.seat_lists.proofs.bookings.put_bookings.Given as goal

abbrev pub invariant-loop-i : goal.invariant-loop-i
invariant-loop-i l = IsPut (λ n. IsBookingLine l.flights l.alone) 0 (take l.i l.bookings) l.initial.text.items l.text.items
