use Rattle.seat_desk.proofs.Schedules.{refused_set, refused_expansion}
use Rattle.seat_desk.proofs.schedule.scheduled.Goals as goal

pub returns-in-Err-clause-fault : goal.returns-in-Err-clause-fault
returns-in-Err-clause-fault c = refused_set c.args.first c.args.days c.args.bytes.now c.in-Err.fault c.in-Err.ensures.fault

pub returns-clause-fault : goal.returns-clause-fault
returns-clause-fault c =
    rw c.of_expansion.ensures (refused_expansion c.args.first c.args.days c.args.bytes.now c.in-Ok.set c.in-Err-expand.fault c.requires.size c.in-Ok.ensures.ok c.in-Err-expand.ensures.fault)

pub returns-in-Ok-expand-clause-ok : goal.returns-in-Ok-expand-clause-ok
returns-in-Ok-expand-clause-ok c =
    record { set = c.in-Ok.set; is_set = c.in-Ok.ensures.ok; right = c.in-Ok-expand.ensures.faultless; are_flights = c.in-Ok-expand.ensures.flights }
