-- The flights so far have their days.
use Rattle.std.proofs.Common.{◌≡◌, ◌++◌, drop}
use Rattle.pickup_questions.specs.Groups.{start_groups}
use Rattle.pickup_questions.proofs.by_day.start_groups.Given as goal

abbrev pub invariant-loop-index : goal.invariant-loop-index
invariant-loop-index l = l.starts.items ++ start_groups l.first (drop l.index l.flights) ≡ start_groups l.first l.flights
