-- None so far is of the class.
use Rattle.std.proofs.Common.{◌≡◌, drop}
use Rattle.carry_protections.specs.Going.{class_onto}
use Rattle.carry_protections.proofs.going.class_onto.Given as goal

abbrev pub invariant-loop-pair : goal.invariant-loop-pair
invariant-loop-pair l = class_onto l.pairs l.class ≡ class_onto (drop l.pair-index l.pairs) l.class
