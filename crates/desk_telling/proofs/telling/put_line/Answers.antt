use Rattle.airline_base.proofs.Sending.{on_err_any}
use Rattle.desk_telling.specs.Telling.{IsLonger, advices_told, reply_told}
use Rattle.desk_telling.proofs.Tellings.{behind_both, longer_further, longer_same}
use Rattle.desk_telling.proofs.telling.put_line.Goals as goal

pub returns-clause-told : goal.returns-clause-told
returns-clause-told c =
    behind_both c.args.flights.now c.args.desk (reply_told c.args.desk c.args.line.now) (advices_told c.args.journal.now c.args.desk c.args.line.now c.args.line.now.advices) c.args.text.now.items
    c.put_reply.new.text.items c.put_advices.new.text.items c.in_ok-put_reply.ensures.told c.in_ok-put_advices.ensures.told

pub returns-in_err-put_reply-clause-refused : goal.returns-in_err-put_reply-clause-refused
returns-in_err-put_reply-clause-refused c =
    on_err_any c.from_residual.result (IsLonger c.args.text.now.items c.put_reply.new.text.items)
    (longer_same c.args.text.now.items c.put_reply.new.text.items c.in_err-put_reply.ensures.refused)

pub returns-in_err-put_advices-clause-refused : goal.returns-in_err-put_advices-clause-refused
returns-in_err-put_advices-clause-refused c =
    on_err_any c.from_residual-in_err-put_advices.result (IsLonger c.args.text.now.items c.put_advices.new.text.items)
    (longer_further c.args.flights.now c.args.desk (reply_told c.args.desk c.args.line.now) c.args.text.now.items c.put_reply.new.text.items c.put_advices.new.text.items
    c.in_ok-put_reply.ensures.told c.in_err-put_advices.ensures.refused)
