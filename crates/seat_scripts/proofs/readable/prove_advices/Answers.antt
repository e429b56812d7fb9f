use Rattle.seat_journal.specs.Text.{IsAdvice}
use Rattle.seat_replies.proofs.Advised.{all_more}
use Rattle.seat_scripts.proofs.readable.prove_advices.Goals as goal

pub loop-advice-preserved : goal.loop-advice-preserved
loop-advice-preserved c = all_more IsAdvice c.args.advices.now c.loop-advice.advice-index c.advice-item.result c.loop-advice-test.true c.advice-item.is c.loop-advice.invariant c.prove_advice.ensures
