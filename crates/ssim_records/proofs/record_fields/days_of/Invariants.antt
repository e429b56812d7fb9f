-- The days so far are those of the text.
use Rattle.ssim_records.proofs.DayLaws.{AreRead}
use Rattle.ssim_records.proofs.record_fields.days_of.Given as goal

abbrev pub invariant-loop-index : goal.invariant-loop-index
invariant-loop-index l = AreRead l.text l.days l.index
