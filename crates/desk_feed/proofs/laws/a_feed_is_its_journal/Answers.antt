use Rattle.desk_feed.proofs.Living.{a_feed_is_its_journal}
use Rattle.desk_feed.proofs.laws.a_feed_is_its_journal.Goals as goal

pub returns : goal.returns
returns c = a_feed_is_its_journal
