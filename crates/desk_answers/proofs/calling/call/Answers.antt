use Rattle.std.proofs.Common.{List, Result, refl}
use Rattle.std.specs.Prelude.{Err, IfOk, Ok}
use Rattle.desk_answers.proofs.Repeats.{next_called, other_called}
use Rattle.desk_answers.proofs.calling.call.Goals as goal

if_ok : {A E : Type 0} {P Q : A → Type 0} (r : Result A E) → ((x : A) → P x → Q x) → IfOk r P → IfOk r Q
if_ok (Ok x) more p = more x p
if_ok (Err _) more p = tt

pub returns-then-number-calls_of-clause-called : goal.returns-then-number-calls_of-clause-called
returns-then-number-calls_of-clause-called g c =
    if_ok c.ask.result
    (λ text asked. next_called c.args.flights.now c.args.serving.now.grid c.args.serving.now.cap c.args.session c.args.number c.calls_of.result
    c.args.serving.now.journal c.ask.new.serving.journal c.args.wish.now text.items c.if-number-calls_of.true c.calls_of.ensures.value asked)
    c.ask.ensures.asked

pub returns-in-Ok-clause-called : goal.returns-in-Ok-clause-called
returns-in-Ok-clause-called g c =
    other_called c.args.flights.now c.args.serving.now.grid c.args.serving.now.cap c.args.session c.args.number c.calls_of.result
    c.args.serving.now.journal c.args.serving.now.journal c.args.wish.now c.in-Ok.text.items c.if-number-calls_of.false c.calls_of.ensures.value refl
    c.in-Ok.ensures
