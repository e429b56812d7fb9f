-- What becomes of the flights so far is added.
use Rattle.std.proofs.Common.{◌≡◌, ◌++◌, drop}
use Rattle.season_changes.specs.Changes.{each_from, of_new}
use Rattle.season_changes.proofs.changes.add_news.Given as goal

abbrev pub invariant-loop-i : goal.invariant-loop-i
invariant-loop-i l =
    l.all.items ++ each_from (λ i. of_new l.asked l._flights) l.i (drop l.i l.asked.flights.now) ≡ l.initial.all.items ++ each_from (λ i. of_new l.asked l._flights) 0 l.asked.flights.now
