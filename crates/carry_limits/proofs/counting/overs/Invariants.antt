-- Those on the flights so far are there.
use Rattle.std.proofs.Common.{◌≡◌, ◌++◌, drop}
use Rattle.limit_changes.specs.Legs.{each_from}
use Rattle.carry_limits.specs.Overs.{flight_overs, overs}
use Rattle.carry_limits.proofs.counting.overs.Given as goal

abbrev pub invariant-loop-index : goal.invariant-loop-index
invariant-loop-index l = l.all.items ++ each_from (flight_overs l.file l.by) l.index (drop l.index l.flights) ≡ overs l.file l.by l.flights
