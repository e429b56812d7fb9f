use Rattle.std.proofs.Common.{ℕ, subst, sym, zero-add}
use Rattle.seat_pickup.specs.Moves.{is_at}
use Rattle.seat_pickup.specs.Pickups.{moved_behind}
use Rattle.seat_questions.proofs.Covers.{there, here}
use Rattle.seat_tables.specs.Sheets.{ArePut}
use Rattle.seat_tables.proofs.Putting.{put_more, put_none}
use Rattle.table_questions.proofs.Tables.{all_put}
use Rattle.pickup_questions.specs.LegRows.{leg_names, rows_of_legs}
use Rattle.pickup_questions.proofs.by_leg.put_flights.Goals as goal

pub loop-index-init : goal.loop-index-init
loop-index-init c = put_none leg_names c.args.sheet.now c.requires.ready

pub loop-index-preserved : goal.loop-index-preserved
loop-index-preserved c =
    let rows = rows_of_legs c.args.asked.now (moved_behind c.args.core.now.grid c.args.core.now.journal c.args.lines (is_at c.args.moves.now.split)) in
    put_more leg_names rows 0 c.loop-index.index c.args.flights.now c.flight.result c.args.sheet.now c.loop-index.sheet c.put_flight.new.sheet
    c.loop-index.invariant (there c.args.flights.now c.loop-index.index c.flight.result c.flight.ensures.value) (here c.args.flights.now c.loop-index.index c.flight.result c.flight.ensures.value)
    (subst (λ (k : ℕ). ArePut leg_names (rows k c.flight.result) c.loop-index.sheet c.put_flight.new.sheet) (sym (zero-add c.loop-index.index)) c.in_ok-put_flight.ensures)

pub returns : goal.returns
returns c =
    all_put leg_names (rows_of_legs c.args.asked.now (moved_behind c.args.core.now.grid c.args.core.now.journal c.args.lines (is_at c.args.moves.now.split))) c.loop-index.index c.len-index-end.result c.args.flights.now c.args.sheet.now c.loop-index.sheet
    c.loop-index.invariant c.len-index-end.ensures.value c.loop-index-test.false
