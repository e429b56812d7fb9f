use Rattle.seat_lists.proofs.Passes.{passes_go_in_order}
use Rattle.seat_lists.proofs.laws.passes_go_in_order.Goals as goal

pub returns : goal.returns
returns c = passes_go_in_order
