use Rattle.std.proofs.Common.{List, subst}
use Rattle.std.specs.Prelude.{IfOk}
use Rattle.desk_stream.specs.Feeds.{Feeding}
use Rattle.desk_stream.specs.Telling.{IsFeedTurn}
use Rattle.desk_stream.specs.declared.telling.FeedTurn.{FeedTurn}
use Rattle.seat_desk.specs.FlightsDesk.{IsText}
use Rattle.seat_replies.specs.RunDesk.{at_any}
use Rattle.desk_stream.proofs.feed.Feed.told.Goals as goal

pub returns-clause-told : goal.returns-clause-told
returns-clause-told g c =
    subst (λ (h : Feeding g.row.D.Denot). IfOk c.told_of.result (λ text. IsText (at_any (IsFeedTurn h.flights h.serving.grid h.serving.journal)) 0 h.pending.turns.items text.items))
    c.self.view_is
    (subst (λ (l : List FeedTurn). IfOk c.told_of.result (λ text. IsText (at_any (IsFeedTurn c.self.inside.flights.now c.self.inside.serving.grid c.self.inside.serving.journal)) 0 l text.items))
    c.as_slice.ensures.value c.told_of.ensures.told)
