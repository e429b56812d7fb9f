use Rattle.shard_questions.proofs.Joined.{joined_are_not_refused}
use Rattle.shard_questions.proofs.laws.joined_are_not_refused.Goals as goal

pub returns : goal.returns
returns c = joined_are_not_refused
