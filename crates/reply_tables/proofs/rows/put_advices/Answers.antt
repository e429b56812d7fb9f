use Rattle.std.proofs.Common.{List, subst}
use Rattle.seat_journal.specs.declared.entry.Advice.{Advice}
use Rattle.seat_tables.specs.Rows.{rows_from}
use Rattle.seat_tables.specs.Sheets.{ArePut}
use Rattle.seat_tables.proofs.Putting.{put_more, put_none, put_whole}
use Rattle.reply_tables.specs.ReplyRows.{advice_rows, reply_names}
use Rattle.reply_tables.proofs.rows.put_advices.Goals as goal

pub loop-i-init : goal.loop-i-init
loop-i-init c = put_none reply_names c.args.sheet.now c.requires.ready

pub loop-i-preserved : goal.loop-i-preserved
loop-i-preserved c =
    put_more reply_names (advice_rows c.args.flights.now c.args.journal.now c.args.entry.now) 0 c.loop-i.i c.as_slice-advices.result.now c.index-advices-i.result c.args.sheet.now c.loop-i.sheet c.put_advice.new.sheet
    c.loop-i.invariant c.loop-i-test.true c.index-advices-i.is c.in_ok-put_advice.ensures

pub returns : goal.returns
returns c =
    let rows = advice_rows c.args.flights.now c.args.journal.now c.args.entry.now in
    subst (λ (l : List Advice). ArePut reply_names (rows_from rows 0 l) c.args.sheet.now c.loop-i.sheet) c.as_slice-advices.ensures
    (put_whole reply_names rows 0 c.loop-i.i c.as_slice-advices.result.now c.args.sheet.now c.loop-i.sheet c.loop-i.invariant c.loop-i-test.false)
