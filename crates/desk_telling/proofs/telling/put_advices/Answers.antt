use Rattle.std.proofs.Common.{List, take, subst}
use Rattle.airline_base.proofs.Sending.{on_err_any}
use Rattle.seat_journal.specs.declared.entry.Advice.{Advice}
use Rattle.desk_telling.specs.Telling.{AreToldBehind, IsLonger, advices_told}
use Rattle.desk_telling.proofs.Tellings.{advices_more, advices_whole, behind_none, longer_after}
use Rattle.desk_telling.proofs.telling.put_advices.Goals as goal

pub loop-advice-init : goal.loop-advice-init
loop-advice-init c = behind_none c.args.flights.now c.args.desk c.args.text.now.items

pub loop-advice-preserved : goal.loop-advice-preserved
loop-advice-preserved c =
    advices_more c.args.flights.now c.args.journal.now c.args.desk c.args.line.now c.loop-advice.advice-index c.as_slice-advice-items.result.now c.advice-item.result
    c.args.text.now.items c.loop-advice.text.items c.put_advice.new.text.items c.loop-advice.invariant c.loop-advice-test.true c.advice-item.is c.in_ok-put_advice.ensures.told

pub returns-clause-told : goal.returns-clause-told
returns-clause-told c =
    subst (λ (l : List Advice). AreToldBehind c.args.flights.now c.args.desk (advices_told c.args.journal.now c.args.desk c.args.line.now l) c.args.text.now.items c.loop-advice.text.items)
    c.as_slice-advice-items.ensures
    (advices_whole c.args.flights.now c.args.journal.now c.args.desk c.args.line.now c.loop-advice.advice-index c.as_slice-advice-items.result.now
    c.args.text.now.items c.loop-advice.text.items c.loop-advice.invariant c.loop-advice-test.false)

pub returns-in_err-put_advice-clause-refused : goal.returns-in_err-put_advice-clause-refused
returns-in_err-put_advice-clause-refused c =
    on_err_any c.from_residual.result (IsLonger c.args.text.now.items c.put_advice.new.text.items)
    (longer_after c.args.flights.now c.args.desk (advices_told c.args.journal.now c.args.desk c.args.line.now (take c.loop-advice.advice-index c.as_slice-advice-items.result.now))
    c.args.text.now.items c.loop-advice.text.items c.put_advice.new.text.items c.loop-advice.invariant c.in_err-put_advice.ensures.refused)
