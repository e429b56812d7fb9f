use Rattle.seat_core.proofs.pass.copied.Goals as goal

pub returns-in-Ok : goal.returns-in-Ok
returns-in-Ok c = c.in-Ok.ensures.items
