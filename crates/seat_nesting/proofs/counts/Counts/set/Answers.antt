use Rattle.seat_nesting.proofs.Settable.{limit_may}
use Rattle.seat_nesting.proofs.counts.Counts.set.Goals as goal

pub set_on-requires : goal.set_on-requires
set_on-requires c = limit_may c.args.self.now c.args.flight c.args.leg c.args.class c.args.limit c.args.wait c.limits_are_kept.ensures c.requires
