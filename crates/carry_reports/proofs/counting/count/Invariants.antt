-- The sums so far have counted it.
use Rattle.std.proofs.Common.{◌≡◌, ◌++◌, drop, map, take}
use Rattle.carry_reports.specs.Counting.{counted_by}
use Rattle.carry_reports.proofs.counting.count.Given as goal

abbrev pub invariant-loop-k : goal.invariant-loop-k
invariant-loop-k l = l.sums ≡ map (counted_by l.code l.seats) (take l.k l.initial.sums) ++ drop l.k l.initial.sums
