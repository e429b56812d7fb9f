-- None of the steps so far has the class.
use Rattle.std.proofs.Common.{◌≡◌, drop}
use Rattle.seat_nesting.specs.Nesting.{is_open_on}
use Rattle.carry_lines.proofs.choosing.is_open_on.Given as goal

abbrev pub invariant-loop-step : goal.invariant-loop-step
invariant-loop-step l = is_open_on (drop l.step-index l.steps) l.class ≡ is_open_on l.steps l.class
