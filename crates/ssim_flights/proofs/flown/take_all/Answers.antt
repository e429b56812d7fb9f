use Rattle.std.proofs.Common.{ℕ, ◌<◌, ◌≤◌, ap, subst, ◌∙◌}
use Rattle.ssim_flights.specs.Flown.{departure}
use Rattle.ssim_flights.proofs.RowByRow.{taken_none, taken_more, taken_all}
use Rattle.ssim_flights.proofs.flown.take_all.Goals as goal

pub loop-k-init : goal.loop-k-init
loop-k-init c = taken_none c.args.taken.now (departure c.args.first.now) c.args.rows.now

pub loop-k-preserved : goal.loop-k-preserved
loop-k-preserved c = taken_more (departure c.args.first.now) c.args.taken.now c.loop-k.taken c.take.new.taken c.args.rows.now c.loop-k.k c.departure_on.result (subst (λ (n : ℕ). c.loop-k.k < n) c.len-k-end.ensures c.loop-k-test.true) c.loop-k.invariant (c.departure_on.ensures ∙ ap (departure c.args.first.now) c.at.ensures) c.in-Ok.ensures

pub returns : goal.returns
returns c = taken_all (departure c.args.first.now) c.args.taken.now c.loop-k.taken c.args.rows.now c.loop-k.k (subst (λ (n : ℕ). n ≤ c.loop-k.k) c.len-k-end.ensures c.loop-k-test.false) c.loop-k.invariant
