use Rattle.std.proofs.Common.{◌≡◌, ◌++◌, map, take}
use Rattle.seat_seal.specs.Booked.{imprint_in}
use Rattle.seat_seal.proofs.booked.add_each.Given as goal

abbrev pub invariant-loop-script : goal.invariant-loop-script
invariant-loop-script l = l.booked.items ≡ l.initial.booked.items ++ map imprint_in (take l.script-index l.scripts)
