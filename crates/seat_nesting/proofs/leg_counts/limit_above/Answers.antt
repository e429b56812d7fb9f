use Rattle.std.proofs.Common.{◌-◌, sym, arith}
use Rattle.seat_nesting.proofs.LimitChanges.{above_at}
use Rattle.seat_nesting.proofs.leg_counts.limit_above.Goals as goal

pub returns : goal.returns
returns c = sym (above_at 999 c.args.steps.now (c.args.rank - 1) c.args.rank c.index-steps-rank.result (omega arith) (omega arith))
