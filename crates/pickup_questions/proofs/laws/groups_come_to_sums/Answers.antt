use Rattle.pickup_questions.proofs.Together.{groups_come_to_sums}
use Rattle.pickup_questions.proofs.laws.groups_come_to_sums.Goals as goal

pub returns : goal.returns
returns c = groups_come_to_sums
