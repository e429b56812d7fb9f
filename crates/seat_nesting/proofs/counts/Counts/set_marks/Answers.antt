use Rattle.seat_nesting.proofs.Settable.{marks_may}
use Rattle.seat_nesting.proofs.counts.Counts.set_marks.Goals as goal

pub set_on-requires : goal.set_on-requires
set_on-requires c = marks_may c.args.self.now c.args.flight c.args.leg c.args.marks c.limits_are_kept.ensures c.requires
