use Rattle.std.proofs.Common.{rules, of_calls, arith, nat_lt}
use Rattle.std.proofs.lemmas.Fn.{always_returns_same}
use Rattle.seat_bookings.proofs.Live.Order.{parted}
use Rattle.seat_bookings.proofs.Waitlists.Reaching.{reach_at}
use Rattle.seat_bookings.proofs.bookings.reach.Goals as goal

pub returns : goal.returns
returns c =
    let xs = c.args.bookings.now in
    let n = c.args.number in
    let point = c.partition_point.ensures.partitioned (λ b. nat_lt b.number n) (always_returns_same _ _ _ (λ a r f k. search (rules, of_calls))) (parted xs n c.requires) in
    reach_at xs n c.partition_point.result (omega (arith, c.partition_point.ensures.bound)) point
