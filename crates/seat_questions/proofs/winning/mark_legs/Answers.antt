use Rattle.seat_questions.proofs.Marking.{leg_marked, legs_marked, same_marks}
use Rattle.seat_questions.proofs.winning.mark_legs.Goals as goal

pub loop-leg-init : goal.loop-leg-init
loop-leg-init c = same_marks c.args.rows.now c.args.flight.now c.as_slice-legs.result.now c.args.marks.now.items

pub loop-leg-preserved : goal.loop-leg-preserved
loop-leg-preserved c =
    leg_marked c.args.rows.now c.args.flight.now c.as_slice-legs.result.now c.loop-leg.leg-index c.leg-item.result c.last_row.result c.args.marks.now.items
    c.loop-leg.marks.items c.mark.new.marks.items c.loop-leg.invariant c.loop-leg-test.true c.leg-item.is c.last_row.ensures.last c.mark.ensures

pub returns : goal.returns
returns c =
    legs_marked c.args.rows.now c.args.flight.now c.as_slice-legs.result.now c.loop-leg.leg-index c.args.marks.now.items c.loop-leg.marks.items
    c.loop-leg.invariant c.loop-leg-test.false c.as_slice-legs.ensures
