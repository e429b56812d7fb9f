use Rattle.std.proofs.Common.{take}
use Rattle.std.specs.Prelude.{map}
use Rattle.seat_workers.specs.Working.{HasRun}
use Rattle.seat_workers.proofs.workers.Workplace.book_all.Given as goal

abbrev pub invariant-loop-wish : goal.invariant-loop-wish
invariant-loop-wish g l = HasRun (map g.J.Asking.asks (take l.wish-index l.list)) l.initial.party l.party
