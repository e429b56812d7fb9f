-- Those so far that are the part's.
use Rattle.std.proofs.Common.{◌≡◌, take}
use Rattle.carry_parts.specs.Parts.{own_owned}
use Rattle.carry_parts.proofs.keeping.own_owned.Given as goal

abbrev pub invariant-loop-owned : goal.invariant-loop-owned
invariant-loop-owned l = l.own.items ≡ own_owned l.part l.flights (take l.owned-index l.kept)
