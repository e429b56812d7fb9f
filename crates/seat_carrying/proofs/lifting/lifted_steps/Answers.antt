use Rattle.std.proofs.Common.{◌≡◌, ℕ, ◌+◌, ◌-◌, ◌<◌, length, arith, sym, subst}
use Rattle.seat_nesting.specs.Nesting.{Steps}
use Rattle.seat_rules.specs.Bookings.{held, waiting}
use Rattle.seat_carrying.proofs.Counted.{AreLiftedFrom, lifted_next}
use Rattle.seat_carrying.proofs.lifting.lifted_steps.Goals as goal

pub loop-rank-preserved : goal.loop-rank-preserved
loop-rank-preserved c =
    let below : ℕ = c.loop-rank.rank in
    let above : below ≡ (below - 1) + 1 = omega (arith, c.loop-rank-test.true) in
    let inside : below - 1 < length c.args.steps.now = omega (arith, c.loop-rank-test.true, c.loop-rank.invariant.in_range) in
    let next = lifted_next c.args.steps.now c.args.top (held c.args.bookings.now c.args.flight c.args.leg) (waiting c.args.bookings.now c.args.flight c.args.leg)
    (below - 1) below c.loop-rank.held c.seats_held.result c.seats_waiting-waits.result c.min-held.result c.loop-rank.new.items
    c.index-steps-rank.result c.lifted_step.result c.requires.few above inside c.index-steps-rank.is c.loop-rank.invariant
    c.seats_held.ensures c.seats_waiting-waits.ensures c.min-held.ensures c.lifted_step.ensures in
    subst (λ (l : Steps). AreLiftedFrom c.args.steps.now c.args.top (held c.args.bookings.now c.args.flight c.args.leg)
    (waiting c.args.bookings.now c.args.flight c.args.leg) (below - 1) c.min-held.result l) (sym c.put_step.ensures) next
