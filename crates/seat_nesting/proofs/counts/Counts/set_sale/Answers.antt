use Rattle.seat_nesting.proofs.Settable.{sale_may}
use Rattle.seat_nesting.proofs.counts.Counts.set_sale.Goals as goal

pub set_on-requires : goal.set_on-requires
set_on-requires c = sale_may c.args.self.now c.args.flight c.args.leg c.args.class c.args.closed c.limits_are_kept.ensures c.requires
