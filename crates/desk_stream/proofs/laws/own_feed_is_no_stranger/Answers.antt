use Rattle.desk_stream.proofs.Sent.{own_feed_is_no_stranger}
use Rattle.desk_stream.proofs.laws.own_feed_is_no_stranger.Goals as goal

pub returns : goal.returns
returns c = own_feed_is_no_stranger c.commands_are_very_requests.ensures
