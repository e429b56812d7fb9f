use Rattle.std.proofs.Common.{List, ◌+◌, ◌<◌, length, refl, subst}
use Rattle.std.specs.Prelude.{IfSome, OnErr, OnOk}
use Rattle.seat_serving.specs.Answering.{behind}
use Rattle.seat_serving.specs.declared.asked.Asked.{Asked}
use Rattle.desk_hall.specs.Halls.{Hallful, IsHeardBy, IsUnheard}
use Rattle.desk_hall.specs.Planning.{Plans}
use Rattle.desk_hall.proofs.Halls.{hall_either, heard_if, unheard_if}
use Rattle.desk_hall.proofs.hall.Hall.hear.Goals as goal

pub invariant_of-self : goal.invariant_of-self
invariant_of-self g c = (
  hall_either _ _ c.self.inside.flights.now c.self.inside.served c.self.inside.serving c.self.inside.today c.self.inside.desks.items
      c.hear_at-desk.new.desks.items c.self.inside.calls.items c.self.inside.asked.items c.add.new.asked.items c.plan_of-plan.result.asked
      c.add.result c.self.invariant.0 c.hear_at-desk.ensures.count c.plan_of-plan.ensures.right
      (subst (λ (l : List Asked). IfSome c.plan_of-plan.result.asked (λ a. length c.self.inside.serving.journal + length l < c.self.inside.serving.cap))
      c.as_slice.ensures.value c.plan_of-plan.ensures.room)
      c.add.ensures.more c.add.ensures.same,
  c.self.invariant.1,
)

pub returns-clause-heard : goal.returns-clause-heard
returns-clause-heard g c =
    let new : Hallful g.row.D.Denot = (record {
      flights = c.self.inside.flights.now;
      serving = c.self.inside.serving;
      today = c.self.inside.today;
      desks = c.hear_at-desk.new.desks.items;
      manager = c.self.inside.manager;
      asked = c.add.new.asked.items;
      turns = c.add.new.turns.items;
      backlogs = c.self.inside.backlogs;
    }) in
    subst (λ (h : Hallful g.row.D.Denot). OnOk c.add.result (IsHeardBy h new c.args.session c.args.line.now)) c.self.view_is
    (heard_if _ new c.args.session c.args.line.now c.hear_at-desk.result.0 c.hear_at-desk.result.1 c.plan_of-plan.result c.add.result
    c.hear_at-desk.ensures.heard
    (subst (λ (l : List Asked). Plans c.self.inside.flights.now c.self.inside.serving.cap c.args.session c.hear_at-desk.result.0
    (behind c.self.inside.serving.grid c.self.inside.serving.journal l) c.hear_at-desk.result.1 c.plan_of-plan.result) c.as_slice.ensures.value c.plan_of-plan.ensures.plans)
    c.add.ensures.more refl refl refl refl refl)

pub returns-clause-memory : goal.returns-clause-memory
returns-clause-memory g c =
    let new : Hallful g.row.D.Denot = (record {
      flights = c.self.inside.flights.now;
      serving = c.self.inside.serving;
      today = c.self.inside.today;
      desks = c.hear_at-desk.new.desks.items;
      manager = c.self.inside.manager;
      asked = c.add.new.asked.items;
      turns = c.add.new.turns.items;
      backlogs = c.self.inside.backlogs;
    }) in
    subst (λ (h : Hallful g.row.D.Denot). OnErr c.add.result (IsUnheard h new c.args.session c.args.line.now)) c.self.view_is
    (unheard_if _ new c.args.session c.args.line.now c.hear_at-desk.result.0 c.hear_at-desk.result.1 c.add.result c.hear_at-desk.ensures.heard
    c.add.ensures.same refl refl refl refl refl)
