use Rattle.std.proofs.Common.{◌≡◌, ◌+◌, ◌≤◌, nat_lt, drop, filter, length}
use Rattle.ssim_flights.proofs.rounds.days_before.Given as goal

abbrev pub invariant-loop-day : goal.invariant-loop-day
invariant-loop-day l =
    (length (filter (λ d. nat_lt d l.number) l.days) ≡ l.count + length (filter (λ d. nat_lt d l.number) (drop l.day-index l.days)))
    × (l.count ≤ l.day-index)
