use Rattle.std.proofs.Common.{OnOk, subst}
use Rattle.seat_pickup.specs.Moves.{is_at}
use Rattle.seat_pickup.specs.Pickups.{moved_behind}
use Rattle.seat_pickup.specs.declared.split.Split.{Split}
use Rattle.seat_tables.specs.Sheets.{ArePut}
use Rattle.pickup_questions.specs.LegRows.{leg_names, leg_rows}
use Rattle.pickup_questions.proofs.by_leg.put_moved.Goals as goal

pub returns : goal.returns
returns c =
    subst
    (λ (s : Split). OnOk c.put_flights.result (ArePut leg_names (leg_rows c.args.asked.now (moved_behind c.args.core.now.grid c.args.core.now.journal c.args.lines (is_at s)) c.args.flights.now) c.args.sheet.now c.put_flights.new.sheet))
    c.in_ok-moves.ensures.split c.put_flights.ensures
