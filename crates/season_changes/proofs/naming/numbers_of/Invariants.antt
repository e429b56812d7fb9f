-- The flights from the last one on have their numbers.
use Rattle.std.proofs.Common.{◌≤◌, drop, length}
use Rattle.season_changes.specs.Naming.{AreNumbersOf}
use Rattle.season_changes.proofs.naming.numbers_of.Given as goal

abbrev pub invariant-loop-n : goal.invariant-loop-n
invariant-loop-n l = (l.n ≤ length l.flights) × AreNumbersOf l.numbers l.n (drop l.n l.flights)

abbrev pub decreases-loop-n : goal.decreases-loop-n
decreases-loop-n l = l.n
