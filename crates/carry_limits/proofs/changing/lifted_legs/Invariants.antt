-- With all legs of the flights to come, those so far have the rows of all legs.
use Rattle.std.proofs.Common.{◌++◌, [], drop}
use Rattle.seat_rules.specs.Sequential.{state_of}
use Rattle.limit_changes.specs.Legs.{each_from, every_leg, legs_on}
use Rattle.carry_limits.specs.Filed.{HaveRowsOf}
use Rattle.carry_limits.proofs.changing.lifted_legs.Given as goal

abbrev pub invariant-loop-index : goal.invariant-loop-index
invariant-loop-index l =
    HaveRowsOf l.lifted (state_of l.file []) (l.all.items ++ each_from legs_on l.index (drop l.index l.flights)) (every_leg l.flights)
