-- So many lists without a booking.
use Rattle.std.proofs.Common.{◌≡◌, [], replicate}
use Rattle.carry_limits.proofs.parting.no_bookings.Given as goal

abbrev pub invariant-loop : goal.invariant-loop
invariant-loop l = l.lists.items ≡ replicate l.counter []
