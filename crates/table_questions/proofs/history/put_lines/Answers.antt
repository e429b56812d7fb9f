use Rattle.desk_questions.specs.History.{is_wanted}
use Rattle.seat_tables.proofs.Putting.{put_more, put_none, put_whole}
use Rattle.table_questions.specs.HistoryRows.{line_rows, history_names}
use Rattle.table_questions.proofs.history.put_lines.Goals as goal

pub loop-i-init : goal.loop-i-init
loop-i-init c = put_none history_names c.args.sheet.now c.requires.ready

pub loop-i-preserved : goal.loop-i-preserved
loop-i-preserved c =
    put_more history_names (line_rows c.args.flights.now c.args.journal.now (is_wanted c.args.flights.now c.args.wanted.now)) 0 c.loop-i.i c.args.journal.now c.index-journal-i.result c.args.sheet.now c.loop-i.sheet c.put_line.new.sheet
    c.loop-i.invariant c.loop-i-test.true c.index-journal-i.is c.in_ok-put_line.ensures

pub returns : goal.returns
returns c =
    put_whole history_names (line_rows c.args.flights.now c.args.journal.now (is_wanted c.args.flights.now c.args.wanted.now)) 0 c.loop-i.i c.args.journal.now c.args.sheet.now c.loop-i.sheet c.loop-i.invariant c.loop-i-test.false
