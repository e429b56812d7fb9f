use Rattle.std.proofs.Common.{ℕ, subst, sym, zero-add}
use Rattle.seat_questions.proofs.Covers.{there, here}
use Rattle.seat_tables.specs.Sheets.{ArePut}
use Rattle.seat_tables.proofs.Putting.{put_more, put_none}
use Rattle.table_questions.proofs.Tables.{all_put}
use Rattle.table_questions.specs.FlightTable.{flight_names, rows_of_flight}
use Rattle.table_questions.proofs.flights.put_flights.Goals as goal

pub loop-index-init : goal.loop-index-init
loop-index-init c = put_none flight_names c.args.sheet.now c.requires.ready

pub loop-index-preserved : goal.loop-index-preserved
loop-index-preserved c =
    put_more flight_names rows_of_flight 0 c.loop-index.index c.args.flights.now c.flight.result c.args.sheet.now c.loop-index.sheet c.put_legs.new.sheet
    c.loop-index.invariant (there c.args.flights.now c.loop-index.index c.flight.result c.flight.ensures.value) (here c.args.flights.now c.loop-index.index c.flight.result c.flight.ensures.value)
    (subst (λ (k : ℕ). ArePut flight_names (rows_of_flight k c.flight.result) c.loop-index.sheet c.put_legs.new.sheet) (sym (zero-add c.loop-index.index)) c.in_ok-put_legs.ensures)

pub returns : goal.returns
returns c =
    all_put flight_names rows_of_flight c.loop-index.index c.len-index-end.result c.args.flights.now c.args.sheet.now c.loop-index.sheet c.loop-index.invariant
    c.len-index-end.ensures.value c.loop-index-test.false
