use Rattle.shard_questions.proofs.Joined.{joined_is_legal}
use Rattle.shard_questions.proofs.laws.joined_is_legal.Goals as goal

pub returns : goal.returns
returns c = joined_is_legal
