-- The pairs of the places from the legs so far are there.
use Rattle.std.proofs.Common.{◌≡◌, drop}
use Rattle.pickup_questions.specs.PairRows.{with_places}
use Rattle.pickup_questions.proofs.pairs.add_places.Given as goal

abbrev pub invariant-loop-from : goal.invariant-loop-from
invariant-loop-from l = with_places l.pairs.items (drop l.from l.legs) ≡ with_places l.initial.pairs.items l.legs
