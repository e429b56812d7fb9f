use Rattle.desk_status.specs.Tallies.{counted_text}
use Rattle.desk_status.proofs.Puts.{four_put}
use Rattle.desk_status.proofs.text.put_counted.Goals as goal

pub returns-clause-text : goal.returns-clause-text
unfolding counted_text
returns-clause-text c = four_put _ _ _ _ _ _ _ _ _ c.put.ensures.text c.put_number.ensures.text c.put-2.ensures.text c.put_number-2.ensures.text
