use Rattle.std.proofs.Common.{◌∙◌, ap}
use Rattle.pickup_questions.specs.Groups.{group_of}
use Rattle.pickup_questions.proofs.Starting.{days_are}
use Rattle.pickup_questions.proofs.by_day.put_summed.Goals as goal

pub returns : goal.returns
returns c =
    days_are c.args.flights.now c.args.all.now c.in_ok-moved.moved.all.now (group_of c.in_ok-moved.moved.groups) c.deref.result.now c.days_from-first.result c.latest_of.result
    c.saturating_sub-count.result c.args.sheet.now c.put_days.new.sheet (c.deref.ensures.value ∙ c.in_ok-starts.ensures) (ap group_of c.in_ok-moved.ensures.groups)
    c.in_ok-moved.ensures.all c.days_from-first.ensures.value c.latest_of.ensures.value c.saturating_sub-count.ensures c.in_ok-put_days.ensures
