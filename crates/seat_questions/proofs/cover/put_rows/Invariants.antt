-- The rows so far are written and counted.
use Rattle.std.proofs.Common.{◌≡◌, ◌≤◌, take}
use Rattle.std.specs.Prelude.{count_by}
use Rattle.seat_desk.specs.FlightsDesk.{IsPut}
use Rattle.seat_questions.specs.Cover.{IsRowPartBy}
use Rattle.seat_questions.specs.Coverage.{finds_leg}
use Rattle.seat_questions.specs.Winning.{is_marked}
use Rattle.seat_questions.proofs.cover.put_rows.Given as goal

abbrev pub invariant-loop-i : goal.invariant-loop-i
invariant-loop-i l = record {
  put : IsPut (IsRowPartBy (finds_leg l.coverage) (is_marked l.marks)) 1 (take l.i l.rows) l.initial.text.items l.text.items;
  total : l.count ≡ count_by (finds_leg l.coverage) (take l.i l.rows);
  bound : l.count ≤ l.i;
}
