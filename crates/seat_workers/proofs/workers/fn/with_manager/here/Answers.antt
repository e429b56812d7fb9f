use Rattle.seat_workers.proofs.Working.{asks_limits}
use Rattle.seat_workers.proofs.workers.fn.with_manager.here.Goals as goal

pub work_off-requires-clause-asks : goal.work_off-requires-clause-asks
work_off-requires-clause-asks g c κs within = asks_limits g.K.Hosting.grid c.captures.party.now.id c.captures.changes.now c.requires.4 c.requires.5
