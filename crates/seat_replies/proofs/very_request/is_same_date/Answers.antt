use Rattle.seat_replies.proofs.Very.{dates_else, dates_then}
use Rattle.seat_replies.proofs.very_request.is_same_date.Goals as goal

pub returns-then-month-asked_month : goal.returns-then-month-asked_month
returns-then-month-asked_month c =
    let one = c.parts-month.result in
    let two = c.parts-asked_month.result in
    dates_then c.args.flown c.args.asked one.0 one.1 one.2 two.0 two.1 two.2 c.parts-month.ensures.date c.parts-asked_month.ensures.date c.if-month-asked_month.true

pub returns-else-month-asked_month : goal.returns-else-month-asked_month
returns-else-month-asked_month c =
    let one = c.parts-month.result in
    let two = c.parts-asked_month.result in
    dates_else c.args.flown c.args.asked one.0 one.1 one.2 two.0 two.1 two.2 c.parts-month.ensures.date c.parts-asked_month.ensures.date c.if-month-asked_month.false
