use Rattle.std.proofs.Common.{subst, sym}
use Rattle.desk_stream.specs.Hearing.{ComesBy, IsNoStranger, IsStrangeBy}
use Rattle.desk_stream.specs.Meaning.{IsRightMeant}
use Rattle.desk_stream.specs.declared.meant.Meant.{Meant}
use Rattle.desk_stream.proofs.Hears.{not_strange, own_called, own_said}
use Rattle.desk_stream.proofs.hearing.come_by.Goals as goal

pub come_by_call-requires-clause-session : goal.come_by_call-requires-clause-session
come_by_call-requires-clause-session g c = c.requires.session

pub come_by_call-requires-clause-right : goal.come_by_call-requires-clause-right
come_by_call-requires-clause-right g c = subst (IsRightMeant c.args.flights.now c.args.session) c.in-Called.is c.requires.right

pub returns-in-Ok-clause-comes : goal.returns-in-Ok-clause-comes
returns-in-Ok-clause-comes g c =
    subst (λ (m : Meant). ComesBy c.args.flights.now c.args.serving.now c.args.is_own c.args.pending.now c.tell.new.pending c.args.session c.args.desk.now m)
    (sym c.in-Said.is) c.in-Ok.ensures.told

pub returns-in-Ok-clause-waiting : goal.returns-in-Ok-clause-waiting
returns-in-Ok-clause-waiting g c = c.in-Ok.ensures.waiting

pub returns-in-Err-clause-memory : goal.returns-in-Err-clause-memory
returns-in-Err-clause-memory g c =
    λ _. subst (λ (m : Meant). IsNoStranger c.args.flights.now c.args.serving.now c.args.is_own c.args.pending.now c.args.session m)
    (sym c.in-Said.is) (own_said c.args.flights.now c.args.serving.now c.args.is_own c.args.pending.now c.args.session c.in-Said.turn)

pub returns-in-Err-clause-strange : goal.returns-in-Err-clause-strange
returns-in-Err-clause-strange g c = λ wrong. absurd (not_strange wrong)

pub returns-in-Err-clause-same : goal.returns-in-Err-clause-same
returns-in-Err-clause-same g c = c.in-Err.ensures.same

pub returns-in-Err-clause-waiting : goal.returns-in-Err-clause-waiting
returns-in-Err-clause-waiting g c = c.in-Err.ensures.waiting

pub returns-in-Ok-come_by_call-clause-comes : goal.returns-in-Ok-come_by_call-clause-comes
returns-in-Ok-come_by_call-clause-comes g c =
    subst (λ (m : Meant). ComesBy c.args.flights.now c.args.serving.now c.args.is_own c.args.pending.now c.come_by_call.new.pending c.args.session c.args.desk.now m)
    (sym c.in-Called.is) c.in-Ok-come_by_call.ensures.comes

pub returns-in-Ok-come_by_call-clause-waiting : goal.returns-in-Ok-come_by_call-clause-waiting
returns-in-Ok-come_by_call-clause-waiting g c = c.in-Ok-come_by_call.ensures.waiting

pub returns-in-Err-come_by_call-clause-memory : goal.returns-in-Err-come_by_call-clause-memory
returns-in-Err-come_by_call-clause-memory g c =
    λ memory. subst (λ (m : Meant). IsNoStranger c.args.flights.now c.args.serving.now c.args.is_own c.args.pending.now c.args.session m)
    (sym c.in-Called.is) (own_called c.args.flights.now c.args.serving.now c.args.is_own c.args.pending.now c.args.session c.in-Called.number
    c.in-Called.wanted (c.in-Err-come_by_call.ensures.memory memory))

pub returns-in-Err-come_by_call-clause-strange : goal.returns-in-Err-come_by_call-clause-strange
returns-in-Err-come_by_call-clause-strange g c =
    λ strange. subst (λ (m : Meant). IsStrangeBy c.args.flights.now c.args.serving.now c.args.is_own c.args.pending.now c.args.session m)
    (sym c.in-Called.is) (c.in-Err-come_by_call.ensures.strange strange)

pub returns-in-Err-come_by_call-clause-same : goal.returns-in-Err-come_by_call-clause-same
returns-in-Err-come_by_call-clause-same g c = c.in-Err-come_by_call.ensures.same

pub returns-in-Err-come_by_call-clause-waiting : goal.returns-in-Err-come_by_call-clause-waiting
returns-in-Err-come_by_call-clause-waiting g c = c.in-Err-come_by_call.ensures.waiting
