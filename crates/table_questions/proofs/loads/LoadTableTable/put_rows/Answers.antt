use Rattle.std.proofs.Common.{ℕ, subst, sym, zero-add}
use Rattle.seat_rules.specs.Inventory.{state_now}
use Rattle.seat_questions.proofs.Covers.{there, here}
use Rattle.seat_tables.specs.Sheets.{ArePut}
use Rattle.seat_tables.proofs.Putting.{put_more, put_none}
use Rattle.table_questions.specs.LoadRows.{load_names, flight_rows}
use Rattle.table_questions.proofs.Tables.{all_put}
use Rattle.table_questions.proofs.loads.LoadTableTable.put_rows.Goals as goal

pub loop-index-init : goal.loop-index-init
loop-index-init c = put_none load_names c.args.sheet.now c.requires.ready

pub loop-index-preserved : goal.loop-index-preserved
loop-index-preserved c =
    put_more load_names (flight_rows c.args.self.now.loads (state_now c.args.core.now)) 0 c.loop-index.index c.args.flights.now c.flight.result c.args.sheet.now c.loop-index.sheet c.put_flight.new.sheet
    c.loop-index.invariant (there c.args.flights.now c.loop-index.index c.flight.result c.flight.ensures.value) (here c.args.flights.now c.loop-index.index c.flight.result c.flight.ensures.value)
    (subst (λ (k : ℕ). ArePut load_names (flight_rows c.args.self.now.loads (state_now c.args.core.now) k c.flight.result) c.loop-index.sheet c.put_flight.new.sheet) (sym (zero-add c.loop-index.index)) c.in_ok-put_flight.ensures)

pub returns : goal.returns
returns c =
    all_put load_names (flight_rows c.args.self.now.loads (state_now c.args.core.now)) c.loop-index.index c.len-index-end.result c.args.flights.now c.args.sheet.now c.loop-index.sheet c.loop-index.invariant
    c.len-index-end.ensures.value c.loop-index-test.false
