use Rattle.std.proofs.Common.{sym}
use Rattle.seat_limits.specs.ChangeRows.{change_at}
use Rattle.seat_limits.proofs.ChangeLaws.{change_none}
use Rattle.seat_limits.proofs.RowTexts.{stop_of, not_done}
use Rattle.seat_limits.proofs.change_reading.take_change.Goals as goal

pub returns-in-Err-clause-fault : goal.returns-in-Err-clause-fault
returns-in-Err-clause-fault c = stop_of (change_at c.args.line) c.args.text.now c.in-Err.kind (change_none c.args.line c.args.text.now) (not_done c.is_empty.result c.args.text.now c.is_empty.ensures c.if-is_empty.false) (sym c.in-Err.ensures)
