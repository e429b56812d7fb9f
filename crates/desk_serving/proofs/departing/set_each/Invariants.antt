-- These were set, and the host is the same.
use Rattle.std.proofs.Common.{take}
use Rattle.desk_hall.specs.Halls.{IsSameHost}
use Rattle.desk_serving.specs.Groups.{AreSet}
use Rattle.desk_serving.proofs.departing.set_each.Given as goal

abbrev pub invariant-loop-control : goal.invariant-loop-control
invariant-loop-control g l = AreSet l.initial.hall (take l.control-index l.controls) l.hall × IsSameHost l.initial.hall l.hall
