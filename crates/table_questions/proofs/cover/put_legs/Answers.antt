use Rattle.std.proofs.Common.{ℕ, List, subst, sym, zero-add}
use Rattle.ssim_flights.specs.declared.flight.DatedLeg.{DatedLeg}
use Rattle.seat_tables.specs.Rows.{rows_from}
use Rattle.seat_tables.specs.Sheets.{ArePut}
use Rattle.seat_tables.proofs.Putting.{put_more, put_none, put_whole}
use Rattle.table_questions.specs.CoverRows.{cover_names, rows_of_leg}
use Rattle.table_questions.proofs.cover.put_legs.Goals as goal

pub loop-j-init : goal.loop-j-init
loop-j-init c = put_none cover_names c.args.sheet.now c.requires.ready

pub loop-j-preserved : goal.loop-j-preserved
loop-j-preserved c =
    let rows = rows_of_leg c.args.rows.now c.args.index c.args.flight.now in
    put_more cover_names rows 0 c.loop-j.j c.as_slice-legs.result.now c.index-legs-j.result c.args.sheet.now c.loop-j.sheet c.put_leg.new.sheet
    c.loop-j.invariant c.loop-j-test.true c.index-legs-j.is
    (subst (λ (k : ℕ). ArePut cover_names (rows k c.index-legs-j.result) c.loop-j.sheet c.put_leg.new.sheet) (sym (zero-add c.loop-j.j)) c.in_ok-put_leg.ensures)

pub returns : goal.returns
returns c =
    let rows = rows_of_leg c.args.rows.now c.args.index c.args.flight.now in
    subst (λ (l : List DatedLeg). ArePut cover_names (rows_from rows 0 l) c.args.sheet.now c.loop-j.sheet) c.as_slice-legs.ensures
    (put_whole cover_names rows 0 c.loop-j.j c.as_slice-legs.result.now c.args.sheet.now c.loop-j.sheet c.loop-j.invariant c.loop-j-test.false)
