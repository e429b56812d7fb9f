-- Those so far that are the part's.
use Rattle.std.proofs.Common.{◌≡◌, take}
use Rattle.carry_parts.specs.Parts.{own_changes}
use Rattle.carry_parts.proofs.keeping.own_changes.Given as goal

abbrev pub invariant-loop-row : goal.invariant-loop-row
invariant-loop-row l = l.own.items ≡ own_changes l.part l.flights (take l.row-index l.rows)
