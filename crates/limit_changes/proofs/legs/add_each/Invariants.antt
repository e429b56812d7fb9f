-- The legs so far are there.
use Rattle.std.proofs.Common.{◌≡◌, ◌++◌, drop}
use Rattle.limit_changes.specs.Legs.{each_from, named_alone}
use Rattle.limit_changes.proofs.legs.add_each.Given as goal

abbrev pub invariant-loop-j : goal.invariant-loop-j
invariant-loop-j l =
    l.all.items ++ each_from (named_alone l.index l.flight) l.j (drop l.j l.legs)
    ≡ l.initial.all.items ++ each_from (named_alone l.index l.flight) 0 l.flight.legs
