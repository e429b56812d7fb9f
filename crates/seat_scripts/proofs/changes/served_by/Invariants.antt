use Rattle.std.proofs.Common.{take}
use Rattle.seat_replies.specs.Changes.{AreServed}
use Rattle.seat_scripts.proofs.changes.served_by.Given as goal

abbrev pub invariant-loop-row : goal.invariant-loop-row
invariant-loop-row l = AreServed l.flights (take l.row-index l.rows) l.changes.items
