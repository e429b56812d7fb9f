-- The sums so far are written.
use Rattle.std.proofs.Common.{◌≡◌, ◌++◌, flat_map, take}
use Rattle.carry_reports.specs.Counting.{counted_text}
use Rattle.carry_reports.proofs.sums.put_each.Given as goal

abbrev pub invariant-loop-sum : goal.invariant-loop-sum
invariant-loop-sum l = l.text.items ≡ l.initial.text.items ++ flat_map counted_text (take l.sum-index l.sums)
