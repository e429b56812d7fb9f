use Rattle.desk_stream.proofs.Sent.{a_feed_is_its_journal}
use Rattle.desk_stream.proofs.laws.a_feed_is_its_journal.Goals as goal

pub returns : goal.returns
returns c = a_feed_is_its_journal
