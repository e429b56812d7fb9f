use Rattle.std.proofs.Common.{refl}
use Rattle.seat_nesting.proofs.Plans.{no_flights}
use Rattle.seat_nesting.proofs.laid_out.no_layout.Goals as goal

pub returns : goal.returns
returns c = no_flights _ c.new.ensures.items c.in-Ok.ensures.items c.in-Ok-with_capacity.ensures.items refl
