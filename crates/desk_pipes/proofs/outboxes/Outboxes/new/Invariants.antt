-- Each so far stands at its number.
use Rattle.std.proofs.Common.{◌≡◌, length}
use Rattle.desk_pipes.specs.Waiting.{AreNumbered}
use Rattle.desk_pipes.proofs.outboxes.Outboxes.new.Given as goal

abbrev pub invariant-loop-session : goal.invariant-loop-session
invariant-loop-session l = AreNumbered l.list.items × (length l.list.items ≡ l.session)
