-- With all legs to come, those so far have the rows of all legs of the flight.
use Rattle.std.proofs.Common.{◌++◌, [], drop}
use Rattle.seat_rules.specs.Sequential.{state_of}
use Rattle.limit_changes.specs.Legs.{each_from, legs_on, named_alone}
use Rattle.carry_limits.specs.Filed.{HaveRowsOf}
use Rattle.carry_limits.proofs.changing.add_lifted.Given as goal

abbrev pub invariant-loop-j : goal.invariant-loop-j
invariant-loop-j l =
    HaveRowsOf l.lifted (state_of l.file []) (l.all.items ++ each_from (named_alone l.index l.flight) l.j (drop l.j l.legs))
    (l.initial.all.items ++ legs_on l.index l.flight)
