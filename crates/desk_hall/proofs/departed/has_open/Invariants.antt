-- No class of those behind is open.
use Rattle.std.proofs.Common.{◌≡◌, drop}
use Rattle.desk_hall.specs.Departed.{has_open}
use Rattle.desk_hall.proofs.departed.has_open.Given as goal

abbrev pub invariant-loop-step : goal.invariant-loop-step
invariant-loop-step l = has_open (drop l.step-index l.steps) ≡ has_open l.steps
