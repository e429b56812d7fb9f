-- The flights so far are looked at.
use Rattle.std.proofs.Common.{◌≡◌, ◌≤◌, drop}
use Rattle.airline_base.specs.Days.{IsDay}
use Rattle.table_questions.specs.SumRows.{latest_of}
use Rattle.table_questions.proofs.by_day.latest_of.Given as goal

abbrev pub invariant-loop-index : goal.invariant-loop-index
invariant-loop-index l = record {
  value : latest_of l.day (drop l.index l.flights) ≡ latest_of 0 l.flights;
  bound : l.day ≤ 84005;
}
