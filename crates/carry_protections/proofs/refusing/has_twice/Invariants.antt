-- None so far is there twice.
use Rattle.std.proofs.Common.{◌≡◌, length}
use Rattle.carry_protections.specs.Refusing.{has_twice}
use Rattle.carry_protections.proofs.refusing.has_twice.Given as goal

abbrev pub invariant-loop-rest : goal.invariant-loop-rest
invariant-loop-rest l = has_twice l.place l.bookings ≡ has_twice l.place l.rest

abbrev pub decreases-loop-rest : goal.decreases-loop-rest
decreases-loop-rest l = length l.rest
