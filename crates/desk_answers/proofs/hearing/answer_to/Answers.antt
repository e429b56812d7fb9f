use Rattle.std.proofs.Common.{List, refl, subst, sym, true}
use Rattle.desk_lines.specs.declared.desk.Meaning.{Meaning}
use Rattle.desk_answers.specs.Saying.{AsksFor, Says}
use Rattle.desk_answers.proofs.Quiet.{says_quiet}
use Rattle.desk_answers.proofs.hearing.answer_to.Goals as goal

pub returns-in-Ok-clause-says : goal.returns-in-Ok-clause-says
returns-in-Ok-clause-says g c =
    subst (λ (m : Meaning). Says c.args.flights.now c.args.serving.now.grid c.args.serving.now.cap c.args.session c.args.desk.now.today
    c.args.desk.now.epoch c.args.desk.now.lines c.args.serving.now.journal c.ask.new.serving.journal m true c.in-Ok.text.items)
    (sym c.in-Request.is) (refl, c.in-Ok.ensures.asked)

pub returns-in-Ok-call-clause-says : goal.returns-in-Ok-call-clause-says
returns-in-Ok-call-clause-says g c =
    subst (λ (m : Meaning). Says c.args.flights.now c.args.serving.now.grid c.args.serving.now.cap c.args.session c.args.desk.now.today
    c.args.desk.now.epoch c.args.desk.now.lines c.args.serving.now.journal c.call.new.serving.journal m true c.in-Ok-call.text.items)
    (sym c.in-Call.is) (refl, c.in-Ok-call.ensures.called)

pub returns-in-Ok-quiet_answer-clause-says : goal.returns-in-Ok-quiet_answer-clause-says
returns-in-Ok-quiet_answer-clause-says g c =
    says_quiet c.args.flights.now c.args.serving.now.grid c.args.serving.now.cap c.args.session c.args.desk.now.today c.args.desk.now.epoch
    c.args.desk.now.lines c.args.serving.now.journal c.args.meaning c.stays_behind.result c.in-Ok-quiet_answer.text.items
    c.in_default.not-Request c.in_default.not-Call c.stays_behind.ensures c.in-Ok-quiet_answer.ensures

pub returns-in-Err-clause-untold : goal.returns-in-Err-clause-untold
returns-in-Err-clause-untold g c = λ is. record {
  wish = c.in-Request.wish;
  is = subst (λ (m : Meaning). AsksFor m c.in-Request.wish) (sym c.in-Request.is) refl;
  line_is = c.in-Err.ensures.untold is;
}

pub returns-in-Err-call-clause-untold : goal.returns-in-Err-call-clause-untold
returns-in-Err-call-clause-untold g c = λ is. record {
  wish = c.in-Call.wish;
  is = subst (λ (m : Meaning). AsksFor m c.in-Call.wish) (sym c.in-Call.is) refl;
  line_is = c.in-Err-call.ensures.untold is;
}

pub returns-in-Ok-clause-ready : goal.returns-in-Ok-clause-ready
returns-in-Ok-clause-ready g c = c.in-Ok.ensures.ready

pub returns-in-Ok-clause-counted : goal.returns-in-Ok-clause-counted
returns-in-Ok-clause-counted g c = c.in-Ok.ensures.counted

pub returns-in-Ok-clause-front : goal.returns-in-Ok-clause-front
returns-in-Ok-clause-front g c = c.ask.ensures.front

pub returns-in-Ok-clause-told : goal.returns-in-Ok-clause-told
returns-in-Ok-clause-told g c = c.ask.ensures.told

pub returns-in-Ok-clause-same : goal.returns-in-Ok-clause-same
returns-in-Ok-clause-same g c = c.ask.ensures.same

pub returns-in-Ok-call-clause-ready : goal.returns-in-Ok-call-clause-ready
returns-in-Ok-call-clause-ready g c = c.in-Ok-call.ensures.ready

pub returns-in-Ok-call-clause-counted : goal.returns-in-Ok-call-clause-counted
returns-in-Ok-call-clause-counted g c = c.in-Ok-call.ensures.counted

pub returns-in-Ok-call-clause-front : goal.returns-in-Ok-call-clause-front
returns-in-Ok-call-clause-front g c = c.call.ensures.front

pub returns-in-Ok-call-clause-told : goal.returns-in-Ok-call-clause-told
returns-in-Ok-call-clause-told g c = c.call.ensures.told

pub returns-in-Ok-call-clause-same : goal.returns-in-Ok-call-clause-same
returns-in-Ok-call-clause-same g c = c.call.ensures.same

pub returns-in-Err-clause-still : goal.returns-in-Err-clause-still
returns-in-Err-clause-still g c = c.in-Err.ensures.still

pub returns-in-Err-clause-memory : goal.returns-in-Err-clause-memory
returns-in-Err-clause-memory g c = c.in-Err.ensures.memory

pub returns-in-Err-clause-device : goal.returns-in-Err-clause-device
returns-in-Err-clause-device g c = c.in-Err.ensures.device

pub returns-in-Err-clause-uncounted : goal.returns-in-Err-clause-uncounted
returns-in-Err-clause-uncounted g c = c.in-Err.ensures.uncounted

pub returns-in-Err-clause-front : goal.returns-in-Err-clause-front
returns-in-Err-clause-front g c = c.ask.ensures.front

pub returns-in-Err-clause-told : goal.returns-in-Err-clause-told
returns-in-Err-clause-told g c = c.ask.ensures.told

pub returns-in-Err-clause-same : goal.returns-in-Err-clause-same
returns-in-Err-clause-same g c = c.ask.ensures.same

pub returns-in-Err-call-clause-still : goal.returns-in-Err-call-clause-still
returns-in-Err-call-clause-still g c = c.in-Err-call.ensures.still

pub returns-in-Err-call-clause-memory : goal.returns-in-Err-call-clause-memory
returns-in-Err-call-clause-memory g c = c.in-Err-call.ensures.memory

pub returns-in-Err-call-clause-device : goal.returns-in-Err-call-clause-device
returns-in-Err-call-clause-device g c = c.in-Err-call.ensures.device

pub returns-in-Err-call-clause-uncounted : goal.returns-in-Err-call-clause-uncounted
returns-in-Err-call-clause-uncounted g c = c.in-Err-call.ensures.uncounted

pub returns-in-Err-call-clause-front : goal.returns-in-Err-call-clause-front
returns-in-Err-call-clause-front g c = c.call.ensures.front

pub returns-in-Err-call-clause-told : goal.returns-in-Err-call-clause-told
returns-in-Err-call-clause-told g c = c.call.ensures.told

pub returns-in-Err-call-clause-same : goal.returns-in-Err-call-clause-same
returns-in-Err-call-clause-same g c = c.call.ensures.same
