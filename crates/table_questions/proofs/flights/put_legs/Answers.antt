use Rattle.std.proofs.Common.{ℕ, subst, sym, zero-add}
use Rattle.seat_tables.specs.Sheets.{ArePut}
use Rattle.seat_tables.proofs.Putting.{put_more, put_none}
use Rattle.table_questions.proofs.Tables.{own_put}
use Rattle.table_questions.specs.FlightTable.{flight_names, rows_of_leg}
use Rattle.table_questions.proofs.flights.put_legs.Goals as goal

pub loop-j-init : goal.loop-j-init
loop-j-init c = put_none flight_names c.args.sheet.now c.requires.ready

pub loop-j-preserved : goal.loop-j-preserved
loop-j-preserved c =
    let rows = rows_of_leg c.args.index c.args.flight.now in
    put_more flight_names rows 0 c.loop-j.j c.as_slice-legs.result.now c.index-legs-j.result c.args.sheet.now c.loop-j.sheet c.put_leg.new.sheet
    c.loop-j.invariant c.loop-j-test.true c.index-legs-j.is
    (subst (λ (k : ℕ). ArePut flight_names (rows k c.index-legs-j.result) c.loop-j.sheet c.put_leg.new.sheet) (sym (zero-add c.loop-j.j)) c.in_ok-put_leg.ensures)

pub returns : goal.returns
returns c =
    own_put flight_names (rows_of_leg c.args.index c.args.flight.now) c.loop-j.j c.as_slice-legs.result.now c.args.flight.now.legs c.args.sheet.now c.loop-j.sheet
    c.loop-j.invariant c.as_slice-legs.ensures c.loop-j-test.false
