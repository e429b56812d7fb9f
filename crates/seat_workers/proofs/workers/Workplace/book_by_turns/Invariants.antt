use Rattle.std.proofs.Common.{All, length}
use Rattle.std.specs.Prelude.{map}
use Rattle.seat_workers.specs.Working.{Asks}
use Rattle.seat_workers.proofs.Working.{IsAt}
use Rattle.seat_workers.proofs.workers.Workplace.book_by_turns.Given as goal

abbrev pub invariant-loop-left : goal.invariant-loop-left
invariant-loop-left g l = record {
  at : IsAt (map g.J.Asking.asks l.list) (map g.J.Asking.asks l.left) l.initial.party l.party;
  asks : All (Asks g.K.Hosting.grid l.party.id) (map g.J.Asking.asks l.left);
}

abbrev pub decreases-loop-left : goal.decreases-loop-left
decreases-loop-left g l = length l.left
