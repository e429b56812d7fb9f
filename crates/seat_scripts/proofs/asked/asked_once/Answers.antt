use Rattle.std.proofs.Common.{map}
use Rattle.seat_scripts.proofs.Starts.{not_asked, not_started, read_asked}
use Rattle.seat_scripts.proofs.asked.asked_once.Goals as goal

pub returns-in-Err-clause-none : goal.returns-in-Err-clause-none
returns-in-Err-clause-none g c =
    not_started g.I.Read.remaining g.I.Read.remaining c.args.inputs.now (g.I.Read.remaining c.args.after.now) c.args.beside.now c.args.again c.args.today (map g.I.Read.remaining c.args.scripts.now) (g.I.Read.remaining c.args.changes.now)
    _ _ _ _ c.in-Err.fault c.in-Err.ensures.none

pub returns-in-Err-asked_from-clause-none : goal.returns-in-Err-asked_from-clause-none
returns-in-Err-asked_from-clause-none g c =
    not_asked g.I.Read.remaining g.I.Read.remaining c.args.inputs.now (g.I.Read.remaining c.args.after.now) c.args.beside.now c.args.again c.args.today (map g.I.Read.remaining c.args.scripts.now) (g.I.Read.remaining c.args.changes.now)
    _ _ _ _ c.in-Err-asked_from.fault c.in-Ok.start c.in-Ok.ensures.ok c.in-Err-asked_from.ensures.none

pub returns-in-Ok-asked_from-clause-ok : goal.returns-in-Ok-asked_from-clause-ok
returns-in-Ok-asked_from-clause-ok g c =
    read_asked g.I.Read.remaining g.I.Read.remaining c.args.inputs.now (g.I.Read.remaining c.args.after.now) c.args.beside.now c.args.again c.args.today (map g.I.Read.remaining c.args.scripts.now) (g.I.Read.remaining c.args.changes.now)
    c.in-Ok.start c.in-Ok.ensures.ok c.in-Ok-asked_from.asked c.in-Ok-asked_from.ensures.ok
