use Rattle.std.proofs.Common.{◌≡◌, ◌+◌, Bool, ◌∷◌, length, Some, None, cond, ap, sym, ◌∙◌, rules, arith}
use Rattle.std.proofs.lemmas.Bool.{lt-ltb, le-ltb}
use Rattle.ssim_flights.proofs.Chaining.{too_many_is}
use Rattle.ssim_flights.proofs.adding.too_many_flights.Goals as goal

pub returns-then-saturating_add-plan : goal.returns-then-saturating_add-plan
returns-then-saturating_add-plan c =
    let first = c.in-Some.first.now in
    let parts : c.args.chained.now ≡ first ∷ c.in-Some._rest.now = search rules in
    let many = c.saturating_add.ensures in
    let len = c.len.ensures in
    sym (too_many_is c.args.plan.now c.args.count first c.in-Some._rest.now c.args.chained.now c.args.indices.now parts c.requires
    ∙ ap (λ (b : Bool). cond b (Some first.leg.serial) None) (lt-ltb c.args.plan.now.most (c.args.count + length c.args.indices.now) (omega arith)))

pub returns-else-saturating_add-plan : goal.returns-else-saturating_add-plan
returns-else-saturating_add-plan c =
    let first = c.in-Some.first.now in
    let parts : c.args.chained.now ≡ first ∷ c.in-Some._rest.now = search rules in
    let many = c.saturating_add.ensures in
    let len = c.len.ensures in
    sym (too_many_is c.args.plan.now c.args.count first c.in-Some._rest.now c.args.chained.now c.args.indices.now parts c.requires
    ∙ ap (λ (b : Bool). cond b (Some first.leg.serial) None) (le-ltb c.args.plan.now.most (c.args.count + length c.args.indices.now) (omega arith)))
