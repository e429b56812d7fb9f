use Rattle.std.proofs.Common.{◌≡◌, ◌+◌, ℕ, List, subst, sym, arith, rules}
use Rattle.row_stretches.proofs.Painting.{SkipNone, skip_none, skip_none_more, skips_at_first}
use Rattle.row_stretches.proofs.stretches.Stretches.new.Goals as goal

pub loop-i-init : goal.loop-i-init
loop-i-init c = rw c.new-skips.ensures.items skip_none

pub loop-i-preserved : goal.loop-i-preserved
loop-i-preserved c = rw c.in-Ok-push.ensures.items (skip_none_more c.loop-i.skips.items c.loop-i.i c.loop-i.invariant)

pub returns-clause-rows : goal.returns-clause-rows
returns-clause-rows c = search rules

pub returns-clause-skips : goal.returns-clause-skips
returns-clause-skips c =
    let end : c.loop-i.i ≡ c.args.count = omega (arith, c.loop-i-test.false, c.loop-i.auto.i-end) in
    skips_at_first c.args.count c.in-Ok.rows.items c.push-2.new.self.items (returns-clause-rows c)
    (subst (λ (skips : List ℕ). SkipNone skips (c.args.count + 1)) (sym c.in-Ok-push-2.ensures.items)
    (skip_none_more c.loop-i.skips.items c.args.count (subst (SkipNone c.loop-i.skips.items) end c.loop-i.invariant)))
