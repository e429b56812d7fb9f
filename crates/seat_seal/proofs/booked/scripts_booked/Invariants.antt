use Rattle.std.proofs.Common.{◌≡◌, take}
use Rattle.std.specs.List.{flat_map}
use Rattle.seat_seal.specs.Booked.{scripts_of}
use Rattle.seat_seal.proofs.booked.scripts_booked.Given as goal

abbrev pub invariant-loop-run : goal.invariant-loop-run
invariant-loop-run l = l.booked.items ≡ flat_map (scripts_of l.lines) (take l.run-index l.runs)
