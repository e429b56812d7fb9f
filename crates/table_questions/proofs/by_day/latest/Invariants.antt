-- The legs so far are looked at.
use Rattle.std.proofs.Common.{◌≡◌, ◌≤◌, drop}
use Rattle.airline_base.specs.Days.{IsDay}
use Rattle.table_questions.specs.SumRows.{latest}
use Rattle.table_questions.proofs.by_day.latest.Given as goal

abbrev pub invariant-loop-leg : goal.invariant-loop-leg
invariant-loop-leg l = record {
  value : latest l.day (drop l.leg-index l.legs) ≡ latest l.initial.day l.legs;
  bound : l.day ≤ 84005;
}
