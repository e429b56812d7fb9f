-- The legs of the flights so far are there.
use Rattle.std.proofs.Common.{◌≡◌, ◌++◌, drop}
use Rattle.limit_changes.specs.Legs.{each_from, every_leg, legs_on}
use Rattle.limit_changes.proofs.legs.every_leg.Given as goal

abbrev pub invariant-loop-index : goal.invariant-loop-index
invariant-loop-index l = l.all.items ++ each_from legs_on l.index (drop l.index l.flights) ≡ every_leg l.flights
