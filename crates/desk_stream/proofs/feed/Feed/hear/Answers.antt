use Rattle.std.proofs.Common.{sym, subst, ◌∙◌}
use Rattle.std.specs.Prelude.{◌≡◌, IfErr}
use Rattle.desk_stream.specs.Feeds.{read_behind, Feeding, IsOwnLine, IsStrangeLine}
use Rattle.desk_stream.specs.declared.hearing.FeedFault.TheVariants.{Memory as Wanting, Strange as Stranger}
use Rattle.desk_stream.proofs.Feeds.{feed_on, own_if, read_to, strange_if}
use Rattle.desk_stream.proofs.feed.Feed.hear.Goals.{in-Ok, in-Err}
use Rattle.desk_stream.proofs.feed.Feed.hear.Goals as goal

pub invariant_of-self : goal.invariant_of-self
invariant_of-self g c = (
  feed_on c.self.inside.flights.now c.self.inside.served c.self.inside.serving c.self.inside.reading c.step_of-behind.result.0
      c.self.inside.desks.items c.hear_step.new.desks.items c.self.inside.calls.items c.self.inside.pending c.hear_step.new.pending
      c.self.invariant.0 c.step_of-behind.ensures.today c.hear_step.ensures.desks c.hear_step.ensures.waiting,
  c.self.invariant.1,
)

pub returns-clause-strange : goal.returns-clause-strange
returns-clause-strange g c =
    let old : Feeding g.row.D.Denot = (record {
      flights = c.self.inside.flights.now;
      serving = c.self.inside.serving;
      epoch = c.self.inside.epoch;
      reading = c.self.inside.reading;
      desks = c.self.inside.desks.items;
      pending = c.self.inside.pending;
    }) in
    let same : c.match-hear_step.result ≡ c.hear_step.result = elim c.match-hear_step.branch [
      | in-Ok w ↦ w.result-is ∙ sym w.in-Ok.is
      | in-Err w ↦ w.result-is ∙ sym w.in-Err.is
    ] in
    subst (λ (feed : Feeding g.row.D.Denot). IfErr c.match-hear_step.result (λ f. f ≡ Stranger → IsStrangeLine feed c.args.line.now)) c.self.view_is
    (subst (λ r. IfErr r (λ f. f ≡ Stranger → IsStrangeLine old c.args.line.now)) (sym same)
    (strange_if old c.args.line.now c.count.new.reading c.lead_of.result c.step_of-behind.result c.is_of-is_own.result c.hear_step.result
    c.count.ensures c.lead_of.ensures.value c.step_of-behind.ensures.value c.is_of-is_own.ensures c.hear_step.ensures.strange))

pub returns-clause-memory : goal.returns-clause-memory
returns-clause-memory g c =
    let old : Feeding g.row.D.Denot = (record {
      flights = c.self.inside.flights.now;
      serving = c.self.inside.serving;
      epoch = c.self.inside.epoch;
      reading = c.self.inside.reading;
      desks = c.self.inside.desks.items;
      pending = c.self.inside.pending;
    }) in
    let same : c.match-hear_step.result ≡ c.hear_step.result = elim c.match-hear_step.branch [
      | in-Ok w ↦ w.result-is ∙ sym w.in-Ok.is
      | in-Err w ↦ w.result-is ∙ sym w.in-Err.is
    ] in
    subst (λ (feed : Feeding g.row.D.Denot). IfErr c.match-hear_step.result (λ f. f ≡ Wanting → IsOwnLine feed c.args.line.now)) c.self.view_is
    (subst (λ r. IfErr r (λ f. f ≡ Wanting → IsOwnLine old c.args.line.now)) (sym same)
    (own_if old c.args.line.now c.count.new.reading c.lead_of.result c.step_of-behind.result c.is_of-is_own.result c.hear_step.result
    c.count.ensures c.lead_of.ensures.value c.step_of-behind.ensures.value c.is_of-is_own.ensures c.hear_step.ensures.memory))

pub returns-clause-read : goal.returns-clause-read
returns-clause-read g c =
    let old : Feeding g.row.D.Denot = (record {
      flights = c.self.inside.flights.now;
      serving = c.self.inside.serving;
      epoch = c.self.inside.epoch;
      reading = c.self.inside.reading;
      desks = c.self.inside.desks.items;
      pending = c.self.inside.pending;
    }) in
    subst (λ (feed : Feeding g.row.D.Denot). c.step_of-behind.result.0 ≡ read_behind feed c.args.line.now) c.self.view_is
    (read_to old c.args.line.now c.count.new.reading c.lead_of.result c.step_of-behind.result c.count.ensures c.lead_of.ensures.value
    c.step_of-behind.ensures.value)

pub hear_step-requires-clause-days : goal.hear_step-requires-clause-days
hear_step-requires-clause-days g c = c.self.invariant.1

pub hear_step-requires-clause-desks : goal.hear_step-requires-clause-desks
hear_step-requires-clause-desks g c = c.self.invariant.0.desks_are

pub hear_step-requires-clause-grid : goal.hear_step-requires-clause-grid
hear_step-requires-clause-grid g c = c.self.invariant.0.grid_is

pub hear_step-requires-clause-right : goal.hear_step-requires-clause-right
hear_step-requires-clause-right g c = c.step_of-behind.ensures.right

pub hear_step-requires-clause-served : goal.hear_step-requires-clause-served
hear_step-requires-clause-served g c = c.self.invariant.0.served_is

pub hear_step-requires-clause-waiting : goal.hear_step-requires-clause-waiting
hear_step-requires-clause-waiting g c = c.self.invariant.0.waiting

pub step_of-behind-requires-clause-right : goal.step_of-behind-requires-clause-right
step_of-behind-requires-clause-right g c = c.lead_of.ensures.right
