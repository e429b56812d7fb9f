use Rattle.std.proofs.Common.{◌≤◌, ap, refl, arith}
use Rattle.seat_host.specs.Ledgers.{counted}
use Rattle.seat_host.proofs.Staking.{popped}
use Rattle.seat_host.proofs.ledgers.Stakes.take.Goals as goal

pub invariant_of-self : goal.invariant_of-self
invariant_of-self g c =
    let high : c.self.inside.next ≤ 8 = omega (arith, c.requires, c.self.view_is) in
    let p = popped c.self.inside.next _ _ _ high c.self.invariant.1 c.pop-stake.ensures.items (λ h. c.pop-stake.ensures.variant.1 (omega (arith, h, c.self.inside.rest.ok))) in
    (omega (arith, high), p.0)

pub returns-clause-stake : goal.returns-clause-stake
returns-clause-stake g c =
    let high : c.self.inside.next ≤ 8 = omega (arith, c.requires, c.self.view_is) in
    let p = popped c.self.inside.next _ _ _ high c.self.invariant.1 c.pop-stake.ensures.items (λ h. c.pop-stake.ensures.variant.1 (omega (arith, h, c.self.inside.rest.ok))) in
    rw p.1 (ap (λ k. counted k 0) c.self.view_is)

pub returns-clause-some : goal.returns-clause-some
returns-clause-some g c =
    let high : c.self.inside.next ≤ 8 = omega (arith, c.requires, c.self.view_is) in
    let p = popped c.self.inside.next _ _ _ high c.self.invariant.1 c.pop-stake.ensures.items (λ h. c.pop-stake.ensures.variant.1 (omega (arith, h, c.self.inside.rest.ok))) in
    rw p.1 refl
