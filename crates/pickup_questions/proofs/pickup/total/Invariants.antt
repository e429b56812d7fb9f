-- The sum so far.
use Rattle.std.proofs.Common.{◌≡◌, take}
use Rattle.std.specs.List.{sum_by}
use Rattle.pickup_questions.specs.Groups.{move_of}
use Rattle.pickup_questions.proofs.pickup.total.Given as goal

abbrev pub invariant-loop-pickup : goal.invariant-loop-pickup
invariant-loop-pickup l = l.sum ≡ sum_by (move_of l.of) (take l.pickup-index l.all)
