-- None so far is of the class.
use Rattle.std.proofs.Common.{◌≡◌, drop}
use Rattle.carry_protections.specs.Rows.{is_named}
use Rattle.carry_protections.proofs.row.is_named.Given as goal

abbrev pub invariant-loop-pair : goal.invariant-loop-pair
invariant-loop-pair l = is_named l.class l.pairs ≡ is_named l.class (drop l.pair-index l.pairs)
