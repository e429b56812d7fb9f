-- None so far is for the same.
use Rattle.std.proofs.Common.{◌≡◌, drop}
use Rattle.carry_protections.specs.Refusing.{has_for}
use Rattle.carry_protections.proofs.refusing.has_for.Given as goal

abbrev pub invariant-loop-other : goal.invariant-loop-other
invariant-loop-other l = has_for l.booking l.behind ≡ has_for l.booking (drop l.other-index l.behind)
