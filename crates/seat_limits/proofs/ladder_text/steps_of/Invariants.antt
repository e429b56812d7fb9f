use Rattle.std.proofs.Common.{◌≡◌, ◌≤◌, ◌+◌, ◌*◌, ◌++◌, length, option_map}
use Rattle.seat_limits.specs.LadderText.{steps_in}
use Rattle.seat_limits.proofs.ladder_text.steps_of.Given as goal

abbrev pub invariant-loop-step : goal.invariant-loop-step
invariant-loop-step l = record {
  read : steps_in l.text ≡ option_map (λ lower. l.steps.items ++ lower) (steps_in l.rest);
  short : length l.rest + 9 * length l.steps.items ≤ 259;
}

abbrev pub decreases-loop-step : goal.decreases-loop-step
decreases-loop-step l = length l.rest
