use Rattle.std.proofs.Common.{refl}
use Rattle.carry_reports.proofs.CodeSums.{counted_on}
use Rattle.carry_reports.proofs.counting.sums_of.Goals as goal

pub loop-fated-preserved : goal.loop-fated-preserved
loop-fated-preserved c =
    counted_on c.args.all.now c.loop-fated.fated-index c.fated-item.result c.code_of.result c.fated-item.result.booking.seats c.loop-fated.sums c.count.new.sums
    c.loop-fated.invariant c.loop-fated-test.true c.fated-item.is c.code_of.ensures refl c.count.ensures.few c.count.ensures.counted
