use Rattle.std.proofs.Common.{List, Option, subst}
use Rattle.seat_tables.specs.Rows.{rows_from}
use Rattle.seat_tables.specs.Sheets.{ArePut}
use Rattle.seat_tables.specs.declared.cell.Cell.{Cell}
use Rattle.seat_tables.proofs.Putting.{put_both}
use Rattle.reply_tables.specs.ReplyRows.{advice_rows, asked_row, reply_names, rows_in}
use Rattle.reply_tables.proofs.rows.put_answer.Goals as goal

pub put_advices-requires : goal.put_advices-requires
put_advices-requires c = record { ready = c.in_ok-put_found.ensures.ready }

pub returns : goal.returns
returns c =
    put_both reply_names (rows_in (asked_row c.args.flights.now c.args.requests.now c.args.place c.args.entry.now c.args.entry.now.work))
    (rows_from (advice_rows c.args.flights.now c.args.journal.now c.args.entry.now) 0 c.args.entry.now.advices) c.args.sheet.now c.put_found.new.sheet c.put_advices.new.sheet
    (subst (λ (row : Option (List Cell)). ArePut reply_names (rows_in row) c.args.sheet.now c.put_found.new.sheet) c.asked_row-row.ensures c.in_ok-put_found.ensures) c.in_ok-put_advices.ensures
