-- The pairs of the places to the legs so far are there.
use Rattle.std.proofs.Common.{◌≡◌, drop}
use Rattle.pickup_questions.specs.PairRows.{with_lasts}
use Rattle.pickup_questions.proofs.pairs.add_lasts.Given as goal

abbrev pub invariant-loop-to : goal.invariant-loop-to
invariant-loop-to l = with_lasts l.pairs.items l.first (drop l.to l.lasts) ≡ with_lasts l.initial.pairs.items l.first l.lasts
