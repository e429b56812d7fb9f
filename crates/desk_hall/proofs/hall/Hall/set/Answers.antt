use Rattle.std.proofs.Common.{List, ◌≡◌, ◌+◌, ◌<◌, length, refl, subst}
use Rattle.std.specs.Prelude.{IfSome, OnErr, OnOk, nat_lt}
use Rattle.seat_serving.specs.Answering.{behind}
use Rattle.seat_serving.specs.declared.asked.Asked.{Asked}
use Rattle.desk_hall.specs.Halls.{Hallful, IsSameHost, IsSet}
use Rattle.desk_hall.specs.Planning.{PlansRow}
use Rattle.desk_hall.proofs.Halls.{hall_either, set_if, unset_if}
use Rattle.desk_hall.proofs.hall.Hall.set.Goals as goal

pub invariant_of-self : goal.invariant_of-self
invariant_of-self g c = (
  hall_either _ _ c.self.inside.flights.now c.self.inside.served c.self.inside.serving c.self.inside.today c.self.inside.desks.items
      c.self.inside.desks.items c.self.inside.calls.items c.self.inside.asked.items c.add.new.asked.items c.plan_row-plan.result.asked
      c.add.result c.self.invariant.0 refl c.plan_row-plan.ensures.right
      (subst (λ (l : List Asked). IfSome c.plan_row-plan.result.asked (λ a. length c.self.inside.serving.journal + length l < c.self.inside.serving.cap))
      c.as_slice.ensures.value c.plan_row-plan.ensures.room)
      c.add.ensures.more c.add.ensures.same,
  c.self.invariant.1,
)

pub returns-clause-set : goal.returns-clause-set
returns-clause-set g c =
    let new : Hallful g.row.D.Denot = (record {
      flights = c.self.inside.flights.now;
      serving = c.self.inside.serving;
      today = c.self.inside.today;
      desks = c.self.inside.desks.items;
      manager = c.self.inside.manager;
      asked = c.add.new.asked.items;
      turns = c.add.new.turns.items;
      backlogs = c.self.inside.backlogs;
    }) in
    subst (λ (h : Hallful g.row.D.Denot). OnOk c.add.result (IsSet h new c.args.control)) c.self.view_is
    (set_if _ new c.args.control c.plan_row-plan.result c.add.result
    (subst (λ (l : List Asked). PlansRow (nat_lt (length (behind c.self.inside.serving.grid c.self.inside.serving.journal l)) c.self.inside.serving.cap)
    (behind c.self.inside.serving.grid c.self.inside.serving.journal l) c.args.control c.plan_row-plan.result) c.as_slice.ensures.value c.plan_row-plan.ensures.plans)
    c.add.ensures.more refl refl (record { serving_is = refl; today_is = refl; flights_are = refl; backlogs_are = refl }))

pub returns-clause-same : goal.returns-clause-same
returns-clause-same g c =
    let new : Hallful g.row.D.Denot = (record {
      flights = c.self.inside.flights.now;
      serving = c.self.inside.serving;
      today = c.self.inside.today;
      desks = c.self.inside.desks.items;
      manager = c.self.inside.manager;
      asked = c.add.new.asked.items;
      turns = c.add.new.turns.items;
      backlogs = c.self.inside.backlogs;
    }) in
    subst (λ (h : Hallful g.row.D.Denot). IsSameHost h new) c.self.view_is
    (record { serving_is = refl; today_is = refl; flights_are = refl; backlogs_are = refl })

pub returns-clause-memory : goal.returns-clause-memory
returns-clause-memory g c =
    let old : Hallful g.row.D.Denot = (record {
      flights = c.self.inside.flights.now;
      serving = c.self.inside.serving;
      today = c.self.inside.today;
      desks = c.self.inside.desks.items;
      manager = c.self.inside.manager;
      asked = c.self.inside.asked.items;
      turns = c.self.inside.turns.items;
      backlogs = c.self.inside.backlogs;
    }) in
    let new : Hallful g.row.D.Denot = (record {
      flights = c.self.inside.flights.now;
      serving = c.self.inside.serving;
      today = c.self.inside.today;
      desks = c.self.inside.desks.items;
      manager = c.self.inside.manager;
      asked = c.add.new.asked.items;
      turns = c.add.new.turns.items;
      backlogs = c.self.inside.backlogs;
    }) in
    subst (λ (h : Hallful g.row.D.Denot). OnErr c.add.result (new ≡ h)) c.self.view_is
    (unset_if old c.add.new.asked.items c.add.new.turns.items c.add.result c.add.ensures.same)
