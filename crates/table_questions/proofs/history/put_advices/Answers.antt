use Rattle.desk_questions.specs.History.{is_wanted}
use Rattle.seat_tables.proofs.Putting.{put_more, put_none}
use Rattle.table_questions.specs.HistoryRows.{advice_rows, history_names}
use Rattle.table_questions.proofs.Tables.{own_put}
use Rattle.table_questions.proofs.history.put_advices.Goals as goal

pub loop-i-init : goal.loop-i-init
loop-i-init c = put_none history_names c.args.sheet.now c.requires.ready

pub loop-i-preserved : goal.loop-i-preserved
loop-i-preserved c =
    put_more history_names (advice_rows c.args.flights.now c.args.journal.now (is_wanted c.args.flights.now c.args.wanted.now) c.args.line.now) 0 c.loop-i.i c.as_slice-advices.result.now c.index-advices-i.result c.args.sheet.now c.loop-i.sheet c.put_advice.new.sheet
    c.loop-i.invariant c.loop-i-test.true c.index-advices-i.is c.in_ok-put_advice.ensures

pub returns : goal.returns
returns c =
    own_put history_names (advice_rows c.args.flights.now c.args.journal.now (is_wanted c.args.flights.now c.args.wanted.now) c.args.line.now) c.loop-i.i c.as_slice-advices.result.now c.args.line.now.advices c.args.sheet.now c.loop-i.sheet c.loop-i.invariant c.as_slice-advices.ensures c.loop-i-test.false
