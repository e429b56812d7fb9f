-- The pairs of the flights so far are there.
use Rattle.std.proofs.Common.{◌≡◌, [], drop}
use Rattle.pickup_questions.specs.PairRows.{with_flights}
use Rattle.pickup_questions.proofs.pairs.pairs_of.Given as goal

abbrev pub invariant-loop-index : goal.invariant-loop-index
invariant-loop-index l = with_flights l.pairs.items (drop l.index l.flights) ≡ with_flights [] l.flights
