use Rattle.std.proofs.Common.{ap, refl, ◌∙◌}
use Rattle.seat_nesting.specs.declared.laid_out.Layout.{Layout}
use Rattle.seat_nesting.specs.Planning.{Planned, IsPlanned, planned}
use Rattle.seat_nesting.proofs.Plans.{more_ladders, plan_of, planned_is, planned_so}
use Rattle.seat_nesting.proofs.grid_plan.GridPlan.share.Goals as goal

pub invariant_of-self : goal.invariant_of-self
invariant_of-self c =
    let old : Layout = c.self.inside.layout in
    let plan : Planned = planned old c.self.inside.first in
    planned_so _ c.self.inside.first (plan_of c.share.new.shared.items plan.flights plan.legs)
    (more_ladders old (record old { shared = c.share.new.shared }) c.self.inside.first plan c.self.invariant c.share.ensures.grows (record { legs = refl; numbers = refl }) refl)

pub returns-clause-flights : goal.returns-clause-flights
returns-clause-flights c =
    let old : Layout = c.self.inside.layout in
    let new : Layout = record old { shared = c.share.new.shared } in
    let plan : Planned = planned old c.self.inside.first in
    let after : Planned = plan_of c.share.new.shared.items plan.flights plan.legs in
    let is : IsPlanned new c.self.inside.first after = more_ladders old new c.self.inside.first plan c.self.invariant c.share.ensures.grows (record { legs = refl; numbers = refl }) refl in
    ap (λ (p : Planned). p.flights) (planned_is new c.self.inside.first after is) ∙ ap (λ (p : Planned). p.flights) c.self.view_is

pub returns-clause-legs : goal.returns-clause-legs
returns-clause-legs c =
    let old : Layout = c.self.inside.layout in
    let new : Layout = record old { shared = c.share.new.shared } in
    let plan : Planned = planned old c.self.inside.first in
    let after : Planned = plan_of c.share.new.shared.items plan.flights plan.legs in
    let is : IsPlanned new c.self.inside.first after = more_ladders old new c.self.inside.first plan c.self.invariant c.share.ensures.grows (record { legs = refl; numbers = refl }) refl in
    ap (λ (p : Planned). p.legs) (planned_is new c.self.inside.first after is) ∙ ap (λ (p : Planned). p.legs) c.self.view_is
