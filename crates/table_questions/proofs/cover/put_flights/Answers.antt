use Rattle.std.proofs.Common.{ℕ, ◌≤◌, subst, sym, zero-add}
use Rattle.seat_questions.proofs.Covers.{there, here}
use Rattle.seat_tables.specs.Sheets.{ArePut}
use Rattle.seat_tables.proofs.Putting.{put_more, put_none, put_whole}
use Rattle.table_questions.specs.CoverRows.{cover_names, rows_of_flight}
use Rattle.table_questions.proofs.cover.put_flights.Goals as goal

pub loop-index-init : goal.loop-index-init
loop-index-init c = put_none cover_names c.args.sheet.now c.requires.ready

pub loop-index-preserved : goal.loop-index-preserved
loop-index-preserved c =
    let rows = rows_of_flight c.args.rows.now in
    put_more cover_names rows 0 c.loop-index.index c.args.flights.now c.flight.result c.args.sheet.now c.loop-index.sheet c.put_legs.new.sheet
    c.loop-index.invariant (there c.args.flights.now c.loop-index.index c.flight.result c.flight.ensures.value) (here c.args.flights.now c.loop-index.index c.flight.result c.flight.ensures.value)
    (subst (λ (k : ℕ). ArePut cover_names (rows k c.flight.result) c.loop-index.sheet c.put_legs.new.sheet) (sym (zero-add c.loop-index.index)) c.in_ok-put_legs.ensures)

pub returns : goal.returns
returns c =
    put_whole cover_names (rows_of_flight c.args.rows.now) 0 c.loop-index.index c.args.flights.now c.args.sheet.now c.loop-index.sheet c.loop-index.invariant
    (subst (λ (k : ℕ). k ≤ c.loop-index.index) c.len-index-end.ensures.value c.loop-index-test.false)
