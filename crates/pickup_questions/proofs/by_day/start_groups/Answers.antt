use Rattle.std.proofs.Common.{ℕ, List, ◌++◌, ◌∙◌, ap}
use Rattle.ssim_flights.specs.declared.flight.DatedLeg.{DatedLeg}
use Rattle.seat_questions.proofs.Covers.{there, here}
use Rattle.pickup_questions.specs.Groups.{start_group, start_groups}
use Rattle.pickup_questions.proofs.Starting.{start_more, starts_whole}
use Rattle.pickup_questions.proofs.by_day.start_groups.Goals as goal

pub loop-index-init : goal.loop-index-init
loop-index-init c = ap (λ (l : List ℕ). l ++ start_groups c.args.first c.args.flights.now) c.new-starts.ensures.items

pub loop-index-preserved : goal.loop-index-preserved
loop-index-preserved c =
    start_more c.args.first c.args.flights.now c.loop-index.index c.flight-flight.result c.start_group.result c.loop-index.starts.items c.push.new.self.items _
    c.loop-index.invariant (there c.args.flights.now c.loop-index.index c.flight-flight.result c.flight-flight.ensures.value) (here c.args.flights.now c.loop-index.index c.flight-flight.result c.flight-flight.ensures.value)
    (c.start_group.ensures ∙ ap (λ (l : List DatedLeg). start_group c.args.first l) c.as_slice.ensures) c.in_ok-push.ensures.items

pub returns : goal.returns
returns c =
    starts_whole c.args.first c.args.flights.now c.loop-index.index c.len-index-end.result c.loop-index.starts.items (start_groups c.args.first c.args.flights.now) c.loop-index.invariant
    c.len-index-end.ensures.value c.loop-index-test.false
