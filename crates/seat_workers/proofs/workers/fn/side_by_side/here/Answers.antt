use Rattle.seat_workers.proofs.Working.{asks_seats}
use Rattle.seat_workers.proofs.workers.fn.side_by_side.here.Goals as goal

pub work_off-requires-clause-asks : goal.work_off-requires-clause-asks
work_off-requires-clause-asks g c κs within = asks_seats g.K.Hosting.grid c.captures.party.now.id c.captures.list.now c.requires.4 c.requires.5 c.requires.6
