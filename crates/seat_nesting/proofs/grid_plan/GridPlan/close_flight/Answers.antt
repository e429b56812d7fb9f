use Rattle.std.proofs.Common.{◌≡◌, ◌-◌, ◌+◌, length, ap, ◌∙◌, arith}
use Rattle.seat_nesting.specs.declared.laid_out.Layout.{Layout}
use Rattle.seat_nesting.specs.Planning.{Planned, planned, with_flight}
use Rattle.seat_nesting.proofs.Plans.{one_flight, planned_is, planned_so}
use Rattle.seat_nesting.proofs.grid_plan.GridPlan.close_flight.Goals as goal

pub invariant_of-self-2 : goal.invariant_of-self-2
invariant_of-self-2 c =
    let old : Layout = c.self.inside.layout in
    let plan : Planned = planned old c.self.inside.first in
    let end : c.in-Ok.end ≡ length old.legs.items = omega (arith, c.in-Ok.ensures.value, c.len.ensures, old.legs.ok) in
    let ends : c.self.inside.first + (c.in-Ok.end - c.self.inside.first) ≡ c.in-Ok.end = omega (arith, end, c.self.invariant.next_legs) in
    planned_so c.push_flight.new.layout c.in-Ok.end (with_flight plan)
    (one_flight old c.push_flight.new.layout c.self.inside.first c.in-Ok.end (c.in-Ok.end - c.self.inside.first) plan c.self.invariant end ends c.in-Ok-push_flight.ensures.flights c.push_flight.ensures.shared c.push_flight.ensures.legs)

pub returns : goal.returns
returns c =
    let old : Layout = c.self.inside.layout in
    let plan : Planned = planned old c.self.inside.first in
    let end : c.in-Ok.end ≡ length old.legs.items = omega (arith, c.in-Ok.ensures.value, c.len.ensures, old.legs.ok) in
    let ends : c.self.inside.first + (c.in-Ok.end - c.self.inside.first) ≡ c.in-Ok.end = omega (arith, end, c.self.invariant.next_legs) in
    planned_is c.push_flight.new.layout c.in-Ok.end (with_flight plan)
    (one_flight old c.push_flight.new.layout c.self.inside.first c.in-Ok.end (c.in-Ok.end - c.self.inside.first) plan c.self.invariant end ends c.in-Ok-push_flight.ensures.flights c.push_flight.ensures.shared c.push_flight.ensures.legs)
    ∙ ap with_flight c.self.view_is
