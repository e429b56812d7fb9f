use Rattle.std.proofs.Common.{◌≡◌, subst}
use Rattle.std.specs.Result.{OnOk}
use Rattle.seat_nesting.specs.Planning.{Planned, planned, steps_in, with_leg}
use Rattle.seat_nesting.proofs.Plans.{leg_kept, leg_told}
use Rattle.seat_nesting.proofs.grid_plan.GridPlan.add_leg.Goals as goal

pub invariant_of-self : goal.invariant_of-self
invariant_of-self c =
    leg_kept c.add_leg.result c.self.inside.layout c.add_leg.new.layout c.self.inside.first (planned c.self.inside.layout c.self.inside.first) (steps_in c.self.inside.layout.shared.items c.args.ladder) c.self.invariant c.add_leg.ensures.legs c.add_leg.ensures.kept c.add_leg.ensures.shared c.add_leg.ensures.flights

pub returns : goal.returns
returns c =
    subst (λ (p : Planned). OnOk c.add_leg.result (planned c.add_leg.new.layout c.self.inside.first ≡ with_leg p (steps_in p.ladders c.args.ladder))) c.self.view_is
    (leg_told c.add_leg.result c.self.inside.layout c.add_leg.new.layout c.self.inside.first (planned c.self.inside.layout c.self.inside.first) (steps_in c.self.inside.layout.shared.items c.args.ladder) c.self.invariant c.add_leg.ensures.legs c.add_leg.ensures.shared c.add_leg.ensures.flights)
