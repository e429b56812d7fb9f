use Rattle.std.proofs.Common.{◌-◌}
use Rattle.seat_workers.proofs.turns.Turns.wait_for_all.Given as goal

abbrev pub decreases-loop-came : goal.decreases-loop-came
decreases-loop-came g l = l.self.workers - l.came
