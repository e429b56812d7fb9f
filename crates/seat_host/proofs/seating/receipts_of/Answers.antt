use Rattle.std.proofs.Common.{◌∙◌, ◌+◌, sym, subst, take}
use Rattle.seat_rules.specs.Histories.{of_session}
use Rattle.line_booking.specs.Receipts.{Kept}
use Rattle.seat_host.specs.Sessions.{KeepsLines}
use Rattle.seat_host.proofs.Keeping.{keeps_same}
use Rattle.seat_host.proofs.Opening.{own_next, own_skip}
use Rattle.seat_host.proofs.seating.receipts_of.Goals as goal
use Rattle.seat_host.proofs.seating.receipts_of.Goals.{then-line-session+in-Ok+in-Ok-copy, else-line-session}

pub loop-line-preserved : goal.loop-line-preserved
loop-line-preserved c = elim c.if-line-session.branch [
  | then-line-session+in-Ok+in-Ok-copy w ↦
      let kept = keeps_same c.loop-line.receipts w.reserve.new.self (of_session c.args.session (take c.loop-line.line-index c.args.lines.now)) c.loop-line.invariant w.reserve.ensures.same in
      subst (λ (k : Kept). KeepsLines k (of_session c.args.session (take (c.loop-line.line-index + 1) c.args.lines.now))) (sym w.receipts-is)
      (own_next c.args.session c.args.lines.now w.reserve.new.self w.add.new.self c.loop-line.line-index c.line-item.result w.of.result kept w.add.ensures c.loop-line-test.true c.line-item.is (w.of.ensures ∙ w.in-Ok-copy.ensures) w.if-line-session.true)
  | else-line-session w ↦
      subst (λ (k : Kept). KeepsLines k (of_session c.args.session (take (c.loop-line.line-index + 1) c.args.lines.now))) (sym w.receipts-is)
      (own_skip c.args.session c.args.lines.now c.loop-line.receipts c.loop-line.line-index c.line-item.result c.loop-line.invariant c.loop-line-test.true c.line-item.is w.if-line-session.false)
]
