use Rattle.std.proofs.Common.{take}
use Rattle.airline_base.proofs.Sending.{on_err_any}
use Rattle.desk_telling.specs.Telling.{IsLonger, told_of_each}
use Rattle.desk_telling.proofs.Tellings.{behind_none, lines_more, lines_whole, longer_further}
use Rattle.desk_telling.proofs.telling.put_lines.Goals as goal

pub loop-line-init : goal.loop-line-init
loop-line-init c = behind_none c.args.flights.now c.args.desk c.args.text.now.items

pub loop-line-preserved : goal.loop-line-preserved
loop-line-preserved c =
    lines_more c.args.flights.now c.args.journal.now c.args.desk c.loop-line.line-index c.args.lines.now c.line-item.result c.args.text.now.items c.loop-line.text.items c.put_line.new.text.items
    c.loop-line.invariant c.loop-line-test.true c.line-item.is c.in_ok-put_line.ensures.told

pub returns-clause-told : goal.returns-clause-told
returns-clause-told c =
    lines_whole c.args.flights.now c.args.journal.now c.args.desk c.loop-line.line-index c.args.lines.now c.args.text.now.items c.loop-line.text.items c.loop-line.invariant c.loop-line-test.false

pub returns-in_err-put_line-clause-refused : goal.returns-in_err-put_line-clause-refused
returns-in_err-put_line-clause-refused c =
    on_err_any c.from_residual.result (IsLonger c.args.text.now.items c.put_line.new.text.items)
    (longer_further c.args.flights.now c.args.desk (told_of_each c.args.journal.now c.args.desk (take c.loop-line.line-index c.args.lines.now)) c.args.text.now.items c.loop-line.text.items c.put_line.new.text.items
    c.loop-line.invariant c.in_err-put_line.ensures.refused)
