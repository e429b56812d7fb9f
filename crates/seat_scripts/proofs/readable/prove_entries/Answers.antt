use Rattle.seat_journal.specs.Text.{IsEntry}
use Rattle.seat_replies.proofs.Advised.{all_more}
use Rattle.seat_scripts.proofs.readable.prove_entries.Goals as goal

pub loop-line-preserved : goal.loop-line-preserved
loop-line-preserved c = all_more IsEntry c.args.lines.now c.loop-line.line-index c.line-item.result c.loop-line-test.true c.line-item.is c.loop-line.invariant c.prove_entry.ensures
