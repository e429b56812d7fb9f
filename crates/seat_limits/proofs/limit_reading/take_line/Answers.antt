use Rattle.std.proofs.Common.{sym}
use Rattle.seat_limits.specs.LimitRows.{row_at}
use Rattle.seat_limits.proofs.RowLaws.{row_none}
use Rattle.seat_limits.proofs.RowTexts.{stop_of, not_done}
use Rattle.seat_limits.proofs.limit_reading.take_line.Goals as goal

pub returns-in-Err-clause-fault : goal.returns-in-Err-clause-fault
returns-in-Err-clause-fault c = stop_of row_at c.args.text.now c.in-Err.kind (row_none c.args.text.now) (not_done c.is_empty.result c.args.text.now c.is_empty.ensures c.if-is_empty.false) (sym c.in-Err.ensures)
