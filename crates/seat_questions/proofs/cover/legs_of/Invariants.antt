use Rattle.std.proofs.Common.{◌≡◌, ◌≤◌, ◌*◌, take}
use Rattle.std.specs.List.{sum_by}
use Rattle.seat_questions.specs.Cover.{leg_count}
use Rattle.seat_questions.proofs.cover.legs_of.Given as goal

abbrev pub invariant-loop-i : goal.invariant-loop-i
invariant-loop-i l = record {
  total : l.count ≡ sum_by leg_count (take l.i l.flights);
  bound : l.count ≤ l.i * 8;
}
