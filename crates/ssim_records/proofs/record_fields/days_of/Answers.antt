use Rattle.std.proofs.Common.{◌+◌}
use Rattle.ssim_records.proofs.DayLaws.{all_read, day_read}
use Rattle.ssim_records.proofs.record_fields.days_of.Goals as goal

pub loop-index-preserved : goal.loop-index-preserved
loop-index-preserved c = day_read c.args.text.now c.loop-index.days c.loop-index.index c.in-Some.day c.if-text-ne7.false c.loop-index-test.true c.loop-index.invariant c.in-Some.ensures

pub returns : goal.returns
returns c = all_read c.args.text.now c.loop-index.days c.loop-index.index c.if-text-ne7.false c.loop-index-test.false c.loop-index.invariant
