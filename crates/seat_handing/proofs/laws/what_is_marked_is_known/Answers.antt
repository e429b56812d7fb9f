use Rattle.seat_handing.proofs.Known.{mark_is_known}
use Rattle.seat_handing.proofs.laws.what_is_marked_is_known.Goals as goal

pub returns : goal.returns
returns c = mark_is_known
