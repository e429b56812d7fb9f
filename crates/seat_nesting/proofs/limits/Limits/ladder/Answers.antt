use Rattle.std.proofs.Common.{◌≡◌, [], subst, sym}
use Rattle.std.specs.Option.{IfNone, IfSome}
use Rattle.seat_nesting.specs.OwnLadders.{pool_of, steps_by}
use Rattle.seat_nesting.specs.declared.limits.Limits.{Limits}
use Rattle.seat_nesting.proofs.OwnLadders.{own_found, own_none}
use Rattle.seat_nesting.proofs.limits.Limits.ladder.Goals as goal

pub returns-in-Own-clause-found : goal.returns-in-Own-clause-found
returns-in-Own-clause-found c =
    let pool = pool_of c.args.shared.now c.args.own.now in
    subst (λ (l : Limits). IfSome c.get-in-Own.result (λ x. x.now ≡ steps_by pool l)) (sym c.in-Own.is)
    (own_found c.args.own.now c.in-Own.i c.get-in-Own.result (λ x. x.now) c.get-in-Own.ensures.lookup.0 c.get-in-Own.ensures.lookup.1)

pub returns-in-Own-clause-none : goal.returns-in-Own-clause-none
returns-in-Own-clause-none c =
    let pool = pool_of c.args.shared.now c.args.own.now in
    subst (λ (l : Limits). IfNone c.get-in-Own.result (steps_by pool l ≡ [])) (sym c.in-Own.is)
    (own_none c.args.own.now c.in-Own.i c.get-in-Own.result c.get-in-Own.ensures.lookup.0)

pub returns-in-Shared-clause-found : goal.returns-in-Shared-clause-found
returns-in-Shared-clause-found c =
    let pool = pool_of c.args.shared.now c.args.own.now in
    subst (λ (l : Limits). IfSome c.get.result (λ x. x.now ≡ steps_by pool l)) (sym c.in-Shared.is)
    (own_found c.args.shared.now c.in-Shared.i c.get.result (λ x. x.now) c.get.ensures.lookup.0 c.get.ensures.lookup.1)

pub returns-in-Shared-clause-none : goal.returns-in-Shared-clause-none
returns-in-Shared-clause-none c =
    let pool = pool_of c.args.shared.now c.args.own.now in
    subst (λ (l : Limits). IfNone c.get.result (steps_by pool l ≡ [])) (sym c.in-Shared.is)
    (own_none c.args.shared.now c.in-Shared.i c.get.result c.get.ensures.lookup.0)
