-- The legs so far are written and counted.
use Rattle.std.proofs.Common.{◌≡◌, ◌≤◌, take}
use Rattle.std.specs.Prelude.{count_by}
use Rattle.seat_desk.specs.FlightsDesk.{IsPut}
use Rattle.seat_questions.specs.Cover.{IsLegPartBy}
use Rattle.seat_questions.specs.Coverage.{finds_row}
use Rattle.seat_questions.proofs.cover.put_legs.Given as goal

abbrev pub invariant-loop-j : goal.invariant-loop-j
invariant-loop-j l = record {
  put : IsPut (IsLegPartBy (finds_row l.coverage) l.index l.flight) 0 (take l.j l.legs) l.initial.text.items
      l.text.items;
  total : l.count ≡ count_by (finds_row l.coverage l.flight) (take l.j l.legs);
  bound : l.count ≤ l.j;
}
