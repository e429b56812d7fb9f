use Rattle.std.proofs.Common.{sym, ◌∙◌}
use Rattle.desk_stream.proofs.Hears.{calls_foreign, calls_own, not_strange, not_true}
use Rattle.desk_stream.proofs.hearing.come_by_call.Goals as goal

pub returns-in-Ok-clause-comes : goal.returns-in-Ok-clause-comes
returns-in-Ok-clause-comes g c =
    calls_own c.args.flights.now c.args.serving.now c.args.is_own c.args.pending.now c.call.new.pending c.args.desk.now c.args.called.now
    c.if-is_own.true c.in-Ok.ensures.planned

pub returns-in-Ok-clause-waiting : goal.returns-in-Ok-clause-waiting
returns-in-Ok-clause-waiting g c = c.in-Ok.ensures.waiting

pub returns-in-Err-clause-memory : goal.returns-in-Err-clause-memory
returns-in-Err-clause-memory g c = λ memory own. c.in-Err.ensures.memory memory

pub returns-in-Err-clause-strange : goal.returns-in-Err-clause-strange
returns-in-Err-clause-strange g c = λ strange. (c.if-is_own.true, c.in-Err.ensures.strange strange)

pub returns-in-Err-clause-same : goal.returns-in-Err-clause-same
returns-in-Err-clause-same g c = c.in-Err.ensures.same

pub returns-in-Err-clause-waiting : goal.returns-in-Err-clause-waiting
returns-in-Err-clause-waiting g c = c.in-Err.ensures.waiting

pub returns-in-Ok-tell-clause-comes : goal.returns-in-Ok-tell-clause-comes
returns-in-Ok-tell-clause-comes g c =
    calls_foreign c.args.flights.now c.args.serving.now c.args.is_own c.args.pending.now c.tell.new.pending c.args.desk.now c.args.called.now
    c.if-is_own.false c.in-Ok-tell.ensures.told

pub returns-in-Ok-tell-clause-waiting : goal.returns-in-Ok-tell-clause-waiting
returns-in-Ok-tell-clause-waiting g c = c.in-Ok-tell.ensures.waiting

pub returns-in-Err-tell-clause-memory : goal.returns-in-Err-tell-clause-memory
returns-in-Err-tell-clause-memory g c = λ memory own. absurd (not_true (sym c.if-is_own.false ∙ own))

pub returns-in-Err-tell-clause-strange : goal.returns-in-Err-tell-clause-strange
returns-in-Err-tell-clause-strange g c = λ wrong. absurd (not_strange wrong)

pub returns-in-Err-tell-clause-same : goal.returns-in-Err-tell-clause-same
returns-in-Err-tell-clause-same g c = c.in-Err-tell.ensures.same

pub returns-in-Err-tell-clause-waiting : goal.returns-in-Err-tell-clause-waiting
returns-in-Err-tell-clause-waiting g c = c.in-Err-tell.ensures.waiting
