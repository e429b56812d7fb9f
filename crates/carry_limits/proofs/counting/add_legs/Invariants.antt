-- Those among the legs so far are there.
use Rattle.std.proofs.Common.{◌≡◌, ◌++◌, drop}
use Rattle.limit_changes.specs.Legs.{each_from}
use Rattle.carry_limits.specs.Overs.{flight_overs, leg_over}
use Rattle.carry_limits.proofs.counting.add_legs.Given as goal

abbrev pub invariant-loop-j : goal.invariant-loop-j
invariant-loop-j l =
    l.all.items ++ each_from (leg_over l.file l.by l.index l.flight) l.j (drop l.j l.legs)
    ≡ l.initial.all.items ++ flight_overs l.file l.by l.index l.flight
