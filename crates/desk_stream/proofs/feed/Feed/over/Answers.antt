use Rattle.std.proofs.Common.{refl}
use Rattle.desk_stream.proofs.Feeds.{feed_over}
use Rattle.desk_stream.proofs.feed.Feed.over.Goals as goal

pub invariant_of-result : goal.invariant_of-result
invariant_of-result g c = (
  feed_over c.args.flights.now c.args.served c.args.serving _ c.args.desks.items c.args.calls.items _ c.requires.served c.requires.grid
      refl c.requires.desks.0 c.requires.desks.1 c.requires.none.0 c.requires.progress c.journal.ensures.capped,
  c.requires.days,
)
