use Rattle.seat_rules.specs.Inventory.{state_now}
use Rattle.table_questions.proofs.Days.{day_kept}
use Rattle.table_questions.proofs.by_day.put_day.Goals as goal

pub returns : goal.returns
returns c =
    day_kept c.args.asked.now c.on_day.result (state_now c.args.core.now) c.args.flights.now c.args.day c.sums_of-sums.result c.is_kept.result c.args.sheet.now c.put_cells.new.sheet
    c.on_day.ensures c.sums_of-sums.ensures.value c.is_kept.ensures c.if-not-is_kept.false c.in_ok-put_cells.ensures
