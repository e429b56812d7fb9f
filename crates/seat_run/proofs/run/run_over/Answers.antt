use Rattle.std.proofs.Common.{◌∷◌, arith}
use Rattle.seat_run.proofs.Gathering.{as_many, refused_run, settled_history, works_count}
use Rattle.seat_workers.specs.Working.{works_of}
use Rattle.seat_workers.proofs.Working.{ended_begun, ended_first, ended_run}
use Rattle.seat_run.proofs.run.run_over.Goals as goal

pub work-requires-clause-lists : goal.work-requires-clause-lists
work-requires-clause-lists g c κs within = as_many c.args.parts.past _ c.args.lists.now c.in-Ok.sessions.items c.in-Ok.ensures.sessions c.requires.count.0

pub returns-clause-fault : goal.returns-clause-fault
returns-clause-fault g c =
    refused_run g.K.Hosting.grid g.K.Hosting.book g.K.Hosting.cap _ c.in-Some.fault.now c.args.parts.past c.args.changes.now c.args.lists.now c.in-Ok.manager c.in-Ok.sessions.items (c.work.new.manager ∷ c.work.new.sessions.items) _ _ _ _
    c.of_run.ensures c.in-Ok.ensures.manager c.in-Ok.ensures.sessions c.requires.count.0 (ended_begun g.K.Hosting.grid g.K.Hosting.book g.K.Hosting.cap (works_of c.args.changes.now c.args.lists.now) (c.in-Ok.manager ∷ c.in-Ok.sessions.items) (c.work.new.manager ∷ c.work.new.sessions.items) c.work.new.faults c.work.ensures.ended) (ended_first g.K.Hosting.grid g.K.Hosting.book g.K.Hosting.cap c.in-Some.fault.now (works_of c.args.changes.now c.args.lists.now) (c.in-Ok.manager ∷ c.in-Ok.sessions.items) (c.work.new.manager ∷ c.work.new.sessions.items) c.work.new.faults c.work.ensures.ended c.in-Some.ensures.found (omega (arith, works_count c.args.changes.now c.args.lists.now, c.work.ensures.count)))
    c.in_ok-settled.ensures.handed c.requires.most c.in_ok-settled.ensures.headline

pub returns-in-None-clause-ok : goal.returns-in-None-clause-ok
returns-in-None-clause-ok g c =
    settled_history _ _ _ c.args.parts.past c.args.changes.now c.args.lists.now c.in-Ok.manager c.in-Ok.sessions.items (c.work.new.manager ∷ c.work.new.sessions.items) _ _ _
    c.in-Ok.ensures.manager c.in-Ok.ensures.sessions c.requires.count.0 (ended_run g.K.Hosting.grid g.K.Hosting.book g.K.Hosting.cap (works_of c.args.changes.now c.args.lists.now) (c.in-Ok.manager ∷ c.in-Ok.sessions.items) (c.work.new.manager ∷ c.work.new.sessions.items) c.work.new.faults c.work.ensures.ended c.in-None.ensures.none) c.in_ok-settled.ensures.handed c.requires.most c.in_ok-settled.ensures.headline
