-- The rows so far are summed.
use Rattle.std.proofs.Common.{take}
use Rattle.pickup_questions.specs.Groups.{AreMoved, group_of}
use Rattle.pickup_questions.proofs.groups.summed.Given as goal

abbrev pub invariant-loop-pickup : goal.invariant-loop-pickup
invariant-loop-pickup l = AreMoved (group_of l.groups) l.count l.of (take l.pickup-index l.all) l.row.items
