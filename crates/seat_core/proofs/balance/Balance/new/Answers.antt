use Rattle.std.proofs.Common.{arith, refl}
use Rattle.seat_bookings.proofs.Kept.Books.{kept_opened}
use Rattle.seat_core.proofs.balance.Balance.new.Goals as goal

pub returns-clause-left : goal.returns-clause-left
returns-clause-left c = record {
  count = refl;
  nine = refl;
  of_replay = rw c.new-2.ensures.items (kept_opened c.args.grid 999999 c.in-Ok.counts c.ladders_are_distinct.ensures (omega arith) c.in-Ok.ensures.limits c.in-Ok.ensures.seats);
}
