use Rattle.carry_limits.proofs.Own as own
use Rattle.carry_limits.proofs.laws.flights_own_bookings_suffice.Goals as goal

pub returns : goal.returns
returns c = own.flights_own_bookings_suffice
