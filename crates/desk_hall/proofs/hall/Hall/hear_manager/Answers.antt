use Rattle.std.proofs.Common.{List, ◌+◌, ◌<◌, ◌≤◌, length, refl, subst, sym}
use Rattle.std.proofs.lemmas.Result.{err_from_is_err_and}
use Rattle.std.specs.Prelude.{IfSome}
use Rattle.seat_serving.specs.declared.asked.Asked.{Asked}
use Rattle.ssim_flights.specs.declared.flight.Flight.{Flight as Flown}
use Rattle.desk_hall.specs.Orders.{IsRightOrder}
use Rattle.desk_hall.proofs.Halls.{hall_later, hall_more}
use Rattle.desk_hall.proofs.hall.Hall.hear_manager.Goals as goal

pub invariant_of-self-2 : goal.invariant_of-self-2
invariant_of-self-2 g c = (
  hall_later c.self.inside.flights.now c.self.inside.served c.self.inside.serving c.self.inside.today c.day_behind-day.result
      c.self.inside.desks.items c.self.inside.calls.items c.add.new.asked.items
      (hall_more c.self.inside.flights.now c.self.inside.served c.self.inside.serving c.self.inside.today c.self.inside.desks.items
      c.self.inside.desks.items c.self.inside.calls.items c.self.inside.asked.items c.add.new.asked.items c.plan_of_order-plan.result.asked
      c.self.invariant.0 refl c.plan_of_order-plan.ensures.right
      (subst (λ (l : List Asked). IfSome c.plan_of_order-plan.result.asked (λ a. length c.self.inside.serving.journal + length l < c.self.inside.serving.cap))
      c.as_slice.ensures.value c.plan_of_order-plan.ensures.room)
      c.in_ok-add.ensures.more.0)
      c.day_behind-day.ensures.century,
  c.self.invariant.1,
)

pub order_of-requires-clause-today : goal.order_of-requires-clause-today
order_of-requires-clause-today g c = c.self.invariant.0.today_is

pub day_behind-day-requires-clause-today : goal.day_behind-day-requires-clause-today
day_behind-day-requires-clause-today g c = c.self.invariant.0.today_is

pub day_behind-day-requires-clause-order : goal.day_behind-day-requires-clause-order
day_behind-day-requires-clause-order g c = c.in_ok-order.ensures.century

pub plan_of_order-plan-requires-clause-grid : goal.plan_of_order-plan-requires-clause-grid
plan_of_order-plan-requires-clause-grid g c = c.self.invariant.0.grid_is

pub plan_of_order-plan-requires-clause-room : goal.plan_of_order-plan-requires-clause-room
plan_of_order-plan-requires-clause-room g c =
    subst (λ (l : List Asked). length c.self.inside.serving.journal + length l ≤ c.self.inside.serving.cap)
    (sym c.as_slice.ensures.value) c.self.invariant.0.room

pub plan_of_order-plan-requires-clause-right : goal.plan_of_order-plan-requires-clause-right
plan_of_order-plan-requires-clause-right g c = subst (λ (fs : List Flown). IsRightOrder fs c.in_ok-order.order) c.self.invariant.0.served_is c.in_ok-order.ensures.right

pub returns-in_err-order-clause-ordered : goal.returns-in_err-order-clause-ordered
returns-in_err-order-clause-ordered g c =
    let p = err_from_is_err_and c.from_residual.result c.from_residual.ensures.1 in
    rw p.1 tt

pub returns-in_err-add-clause-ordered : goal.returns-in_err-add-clause-ordered
returns-in_err-add-clause-ordered g c =
    let p = err_from_is_err_and c.from_residual-in_err-add.result c.from_residual-in_err-add.ensures.1 in
    rw p.1 tt

pub invariant_of-self : goal.invariant_of-self
invariant_of-self g c = c.self.invariant
