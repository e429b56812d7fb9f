use Rattle.std.proofs.Common.{arith}
use Rattle.seat_nesting.proofs.MarkChanges.{marks_all}
use Rattle.seat_nesting.proofs.ladder.with_marks.Goals as goal

pub returns : goal.returns
returns c = marks_all c.args.steps.now c.args.marks.now c.loop-rank.marked_steps.items c.loop-rank.rank c.loop-rank.invariant (omega (arith, c.loop-rank-test.false))
