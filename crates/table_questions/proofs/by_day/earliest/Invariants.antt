-- The legs so far are looked at.
use Rattle.std.proofs.Common.{◌≡◌, ◌≤◌, drop}
use Rattle.airline_base.specs.Days.{IsDay}
use Rattle.table_questions.specs.SumRows.{earliest}
use Rattle.table_questions.proofs.by_day.earliest.Given as goal

abbrev pub invariant-loop-leg : goal.invariant-loop-leg
invariant-loop-leg l = record {
  value : earliest l.day (drop l.leg-index l.legs) ≡ earliest l.initial.day l.legs;
  bound : IsDay l.day;
}
