use Rattle.desk_calls.proofs.Resending.{sent_again_is_sent_once}
use Rattle.desk_calls.proofs.laws.sent_again_is_sent_once.Goals as goal

pub returns : goal.returns
returns c = sent_again_is_sent_once
