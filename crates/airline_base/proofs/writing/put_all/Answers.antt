use Rattle.airline_base.proofs.Sending.{sent_more, took_front, on_err_any}
use Rattle.airline_base.proofs.writing.put_all.Goals as goal

pub returns-in_err-n-clause-front : goal.returns-in_err-n-clause-front
returns-in_err-n-clause-front g c = on_err_any _ _ (took_front _ _ _ _ _ _ _ c.loop-rest.invariant c.in_err-n.ensures.kept)

pub loop-rest-preserved : goal.loop-rest-preserved
loop-rest-preserved g c = sent_more _ _ _ _ _ _ _ c.loop-rest.rest.now c.in_ok-n.n c.loop-rest.invariant c.in_ok-n.ensures.bytes c.in_ok-n.ensures.counted
