use Rattle.std.proofs.Common.{◌≡◌, ◌+◌, ◌-◌, ◌<◌, ℕ, drop, length, ap, ◌∙◌, arith}
use Rattle.seat_nesting.specs.Nesting.{held_from}
use Rattle.seat_nesting.specs.Counting.{leg_of, held_on}
use Rattle.seat_nesting.proofs.LegCounting.{kept_now, held_more_seen}
use Rattle.seat_nesting.proofs.leg_counts.LegCounts.held_from.Goals as goal

pub overflow_add-held : goal.overflow_add-held
overflow_add-held c =
    let i = c.loop-at.at - 1 in
    let next : c.loop-at.at ≡ i + 1 = omega arith in
    let inside : i < length c.args.self.now.steps = omega (arith, c.loop-at.invariant.inside) in
    let seen = held_more_seen (leg_of c.self.inside.steps.now c.self.inside.held.now) c.args.self.now i c.loop-at.at c.self.view_is (kept_now c.self.inside.steps.now c.self.inside.held.now c.args.self.now c.self.view_is c.self.invariant) next inside in
    omega (arith, seen, c.loop-at.invariant.carried)

pub loop-at-preserved : goal.loop-at-preserved
loop-at-preserved c =
    let i = c.loop-at.at - 1 in
    let next : c.loop-at.at ≡ i + 1 = omega arith in
    let inside : i < length c.args.self.now.steps = omega (arith, c.loop-at.invariant.inside) in
    let seen = held_more_seen (leg_of c.self.inside.steps.now c.self.inside.held.now) c.args.self.now i c.loop-at.at c.self.view_is (kept_now c.self.inside.steps.now c.self.inside.held.now c.args.self.now c.self.view_is c.self.invariant) next inside in
    record {
      above = omega arith;
      inside = omega arith;
      carried = omega (arith, seen, c.loop-at.invariant.carried);
    }

pub returns : goal.returns
returns c =
    let same : c.loop-at.at ≡ c.args.rank = omega (arith, c.loop-at.invariant.above) in
    c.loop-at.invariant.carried ∙ ap (λ (i : ℕ). held_from (held_on c.args.self.now) (drop i c.args.self.now.steps)) same
