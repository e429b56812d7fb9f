use Rattle.std.proofs.Common.{◌≡◌, take}
use Rattle.seat_nesting.specs.Changing.{with_marks}
use Rattle.seat_nesting.proofs.ladder.with_marks.Given as goal

-- the steps up to here are marked
abbrev pub invariant-loop-rank : goal.invariant-loop-rank
invariant-loop-rank l = l.marked_steps.items ≡ take l.rank (with_marks l.steps l.marks)
