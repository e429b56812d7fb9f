-- The rows so far are among the spans.
use Rattle.std.proofs.Common.{◌≡◌, map, take}
use Rattle.std.specs.List.{All}
use Rattle.seat_questions.specs.Coverage.{IsDatedRow, begin_of, end_of}
use Rattle.seat_questions.proofs.coverage.spans_of.Given as goal

abbrev pub invariant-loop-row : goal.invariant-loop-row
invariant-loop-row l = record {
  dated : All IsDatedRow (take l.row-index l.rows);
  are_begins : l.begins.items ≡ map (begin_of l.numbers) (take l.row-index l.rows);
  are_ends : l.ends.items ≡ map (end_of l.numbers) (take l.row-index l.rows);
}
