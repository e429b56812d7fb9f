use Rattle.std.proofs.Common.{length, refl}
use Rattle.std.proofs.lemmas.Option.{slice_get_read}
use Rattle.seat_tables.proofs.Putting.{put_more, put_none, put_whole}
use Rattle.table_questions.specs.CoverRows.{cover_names, rows_of_row}
use Rattle.table_questions.proofs.cover.put_idle_rows.Goals as goal

pub put_idle-requires-clause-here : goal.put_idle-requires-clause-here
put_idle-requires-clause-here c =
    slice_get_read c.args.rows.now (length c.args.rows.now) c.loop-i.i c.index-rows-i.result refl c.loop-i-test.true c.index-rows-i.is

pub loop-i-init : goal.loop-i-init
loop-i-init c = put_none cover_names c.args.sheet.now c.requires.ready

pub loop-i-preserved : goal.loop-i-preserved
loop-i-preserved c =
    put_more cover_names (rows_of_row c.args.rows.now c.args.flights.now) 1 c.loop-i.i c.args.rows.now c.index-rows-i.result c.args.sheet.now c.loop-i.sheet c.put_idle.new.sheet
    c.loop-i.invariant c.loop-i-test.true c.index-rows-i.is c.in_ok-put_idle.ensures

pub returns : goal.returns
returns c =
    put_whole cover_names (rows_of_row c.args.rows.now c.args.flights.now) 1 c.loop-i.i c.args.rows.now c.args.sheet.now c.loop-i.sheet c.loop-i.invariant c.loop-i-test.false
