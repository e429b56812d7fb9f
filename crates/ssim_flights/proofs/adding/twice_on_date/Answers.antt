use Rattle.std.proofs.Common.{◌≡◌, Bool, ◌∷◌, Some, None, cond, ap, sym, ◌∙◌, rules}
use Rattle.ssim_flights.proofs.Chaining.{reach_first, reach_from, twice_is}
use Rattle.ssim_flights.specs.Taken.{has_departure}
use Rattle.ssim_flights.proofs.adding.twice_on_date.Goals as goal

pub is_taken-requires : goal.is_taken-requires
is_taken-requires c =
    let parts : c.args.chained.now ≡ c.in-Some.first.now ∷ c.in-Some._rest.now = search rules in
    reach_first c.in-Some.first.now c.in-Some._rest.now c.args.chained.now c.args.indices.now parts (reach_from c.args.plan.now c.args.chained.now c.args.indices.now c.requires)

pub returns-then-is_taken : goal.returns-then-is_taken
returns-then-is_taken c =
    let first = c.in-Some.first.now in
    let parts : c.args.chained.now ≡ first ∷ c.in-Some._rest.now = search rules in
    sym (twice_is c.args.plan.now (has_departure c.args.taken.now) first c.in-Some._rest.now c.args.chained.now c.args.indices.now c.is_taken.result parts c.requires c.is_taken.ensures
    ∙ ap (λ (b : Bool). cond b (Some first.leg.serial) None) c.if-is_taken.true)

pub returns-else-is_taken : goal.returns-else-is_taken
returns-else-is_taken c =
    let first = c.in-Some.first.now in
    let parts : c.args.chained.now ≡ first ∷ c.in-Some._rest.now = search rules in
    sym (twice_is c.args.plan.now (has_departure c.args.taken.now) first c.in-Some._rest.now c.args.chained.now c.args.indices.now c.is_taken.result parts c.requires c.is_taken.ensures
    ∙ ap (λ (b : Bool). cond b (Some first.leg.serial) None) c.if-is_taken.false)
