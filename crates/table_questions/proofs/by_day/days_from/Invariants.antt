-- The flights so far are looked at.
use Rattle.std.proofs.Common.{◌≡◌, ◌≤◌, drop}
use Rattle.airline_base.specs.Days.{IsDay}
use Rattle.table_questions.specs.SumRows.{earliest_of}
use Rattle.table_questions.proofs.by_day.days_from.Given as goal

abbrev pub invariant-loop-index : goal.invariant-loop-index
invariant-loop-index l = record {
  value : earliest_of l.day (drop l.index l.flights) ≡ earliest_of 84005 l.flights;
  bound : IsDay l.day;
}
