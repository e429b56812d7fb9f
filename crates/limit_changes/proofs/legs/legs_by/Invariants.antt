-- The legs of the flights so far are there.
use Rattle.std.proofs.Common.{◌≡◌, ◌++◌, drop}
use Rattle.limit_changes.specs.Legs.{each_from, kept_on, legs_by}
use Rattle.limit_changes.proofs.legs.legs_by.Given as goal

abbrev pub invariant-loop-index : goal.invariant-loop-index
invariant-loop-index l = l.all.items ++ each_from (kept_on l.named l.served l.asked) l.index (drop l.index l.flights) ≡ legs_by l.named l.served l.asked l.flights
