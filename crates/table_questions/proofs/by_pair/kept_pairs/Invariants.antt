-- The pairs of the flights so far are there.
use Rattle.std.proofs.Common.{◌≡◌, [], drop}
use Rattle.table_questions.specs.SumRows.{with_flights}
use Rattle.table_questions.proofs.by_pair.kept_pairs.Given as goal

abbrev pub invariant-loop-index : goal.invariant-loop-index
invariant-loop-index l = with_flights l.asked l.pairs.items (drop l.index l.flights) ≡ with_flights l.asked [] l.flights
