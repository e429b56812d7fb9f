use Rattle.std.proofs.Common.{◌≡◌, []}
use Rattle.seat_trials.proofs.limits.grid.Given as goal

abbrev pub invariant-loop-flight : goal.invariant-loop-flight
invariant-loop-flight l = record {
  closed : l.plan.legs ≡ [];
}
