-- The rows of the advices so far are written.
use Rattle.std.proofs.Common.{take}
use Rattle.seat_tables.specs.Rows.{rows_from}
use Rattle.seat_tables.specs.Sheets.{ArePut}
use Rattle.reply_tables.specs.ReplyRows.{advice_rows, reply_names}
use Rattle.reply_tables.proofs.rows.put_advices.Given as goal

abbrev pub invariant-loop-i : goal.invariant-loop-i
invariant-loop-i l = ArePut reply_names (rows_from (advice_rows l.flights l.journal l.entry) 0 (take l.i l.advices)) l.initial.sheet l.sheet
