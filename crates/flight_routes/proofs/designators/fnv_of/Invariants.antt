-- The hash behind the bytes so far goes on to that of all.
use Rattle.std.proofs.Common.{◌≡◌, length}
use Rattle.flight_routes.specs.Shards.{fnv_from}
use Rattle.flight_routes.proofs.designators.fnv_of.Given as goal

abbrev pub invariant-loop-rest : goal.invariant-loop-rest
invariant-loop-rest l = fnv_from l.hash l.rest ≡ fnv_from 2_166_136_261 l.bytes

abbrev pub decreases-loop-rest : goal.decreases-loop-rest
decreases-loop-rest l = length l.rest
