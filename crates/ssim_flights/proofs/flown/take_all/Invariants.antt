use Rattle.std.proofs.Common.{map, take}
use Rattle.ssim_flights.specs.Flown.{departure}
use Rattle.ssim_flights.specs.Taken.{Takes}
use Rattle.ssim_flights.proofs.flown.take_all.Given as goal

abbrev pub invariant-loop-k : goal.invariant-loop-k
invariant-loop-k l = Takes l.initial.taken l.taken (map (departure l.first) (take l.k l.rows))
