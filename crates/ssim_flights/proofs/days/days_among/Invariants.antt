use Rattle.std.proofs.Common.{◌≡◌, filter}
use Rattle.std.specs.List.{range_with_len}
use Rattle.ssim_flights.specs.Operating.{operates}
use Rattle.ssim_flights.proofs.days.days_among.Given as goal

abbrev pub invariant-loop-past : goal.invariant-loop-past
invariant-loop-past l = l.days.items ≡ filter (operates l.leg) (range_with_len l.leg.from l.past)
