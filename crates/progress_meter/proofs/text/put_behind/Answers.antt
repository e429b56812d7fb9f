use Rattle.progress_meter.specs.Lines.{behind_text}
use Rattle.progress_meter.proofs.Puts.{three_put}
use Rattle.progress_meter.proofs.text.put_behind.Goals as goal

pub returns-clause-text : goal.returns-clause-text
unfolding behind_text
returns-clause-text c = three_put _ _ _ _ _ _ _ c.put.ensures.text c.put_grouped.ensures.text c.put-2.ensures.text
