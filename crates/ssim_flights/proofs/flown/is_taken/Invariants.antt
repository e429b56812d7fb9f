use Rattle.std.proofs.Common.{◌≡◌, map, drop}
use Rattle.std.specs.List.{list_any}
use Rattle.ssim_flights.specs.Flown.{departure}
use Rattle.ssim_flights.specs.Taken.{has_departure}
use Rattle.ssim_flights.proofs.flown.is_taken.Given as goal

abbrev pub invariant-loop-k : goal.invariant-loop-k
invariant-loop-k l =
    list_any (has_departure l.taken) (map (departure l.first) l.rows)
    ≡ list_any (has_departure l.taken) (map (departure l.first) (drop l.k l.rows))
