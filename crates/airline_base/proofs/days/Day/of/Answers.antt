use Rattle.std.proofs.Common.{arith}
use Rattle.airline_base.proofs.Years.{dated}
use Rattle.airline_base.proofs.days.Day.of.Goals as goal

pub overflow_sub-result : goal.overflow_sub-result
overflow_sub-result c = (dated c.in-Ok.date c.args.year c.args.month c.args.day c.days_since_min.result c.in-Ok.ensures.value (omega arith) (omega arith) (omega arith) (omega arith) (rw c.to_plain.ensures at c.days_since_min.ensures.value)).0

pub invariant_of-result : goal.invariant_of-result
invariant_of-result c = (dated c.in-Ok.date c.args.year c.args.month c.args.day c.days_since_min.result c.in-Ok.ensures.value (omega arith) (omega arith) (omega arith) (omega arith) (rw c.to_plain.ensures at c.days_since_min.ensures.value)).1

pub returns-clause-value : goal.returns-clause-value
returns-clause-value c = (dated c.in-Ok.date c.args.year c.args.month c.args.day c.days_since_min.result c.in-Ok.ensures.value (omega arith) (omega arith) (omega arith) (omega arith) (rw c.to_plain.ensures at c.days_since_min.ensures.value)).2
