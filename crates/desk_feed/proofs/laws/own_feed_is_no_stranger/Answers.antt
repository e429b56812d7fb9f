use Rattle.desk_feed.proofs.Living.{own_feed_is_no_stranger}
use Rattle.desk_feed.proofs.laws.own_feed_is_no_stranger.Goals as goal

pub returns : goal.returns
returns c = own_feed_is_no_stranger
