-- What was put, and what is left to put.
use Rattle.std.proofs.Common.{◌≡◌, ◌++◌, drop}
use Rattle.seat_replies.specs.Changes.{on_legs}
use Rattle.seat_replies.proofs.row_changes.put_legs.Given as goal

abbrev pub invariant-loop-leg : goal.invariant-loop-leg
invariant-loop-leg l = l.all.items ++ on_legs l.row l.flight l.leg (drop l.leg l.legs) ≡ l.initial.all.items ++ on_legs l.row l.flight 0 l.legs
