use Rattle.std.proofs.Common.{false, map, refl}
use Rattle.seat_scripts.proofs.Beside.{audited}
use Rattle.seat_scripts.specs.Against.{IsAuditAgainst}
use Rattle.seat_scripts.proofs.OneTaken.{with_taken}
use Rattle.seat_scripts.proofs.Replayed.{no_lines}
use Rattle.seat_scripts.proofs.against.line_against.Goals as goal

pub returns-in-Err-clause-none : goal.returns-in-Err-clause-none
returns-in-Err-clause-none g c = c.in-Err.ensures.none

pub returns-in-Err-compared_in-clause-none : goal.returns-in-Err-compared_in-clause-none
returns-in-Err-compared_in-clause-none g c =
    let wrong = c.in-Err-compared_in in
    no_lines g.I.Read.remaining g.I.Read.remaining c.args.inputs.now (g.I.Read.remaining c.args.after.now) (g.I.Read.remaining c.args.journal.now) c.args.besides.now c.args.given c.args.today (map g.I.Read.remaining c.args.scripts.now)
    _ _ _ _ wrong.fault false c.in-Ok.read c.in-Ok.ensures.ok wrong.ensures.fault wrong.ensures.kind.0 wrong.ensures.kind.1

pub returns-in-Ok-compared_in-clause-ok : goal.returns-in-Ok-compared_in-clause-ok
returns-in-Ok-compared_in-clause-ok g c =
    let read = c.in-Ok.read in
    let is = c.in-Ok.ensures.ok in
    let line = c.in-Ok-compared_in.line.items in
    with_taken (λ more xs ys older zs. IsAuditAgainst xs ys c.args.inputs.now.first c.args.inputs.now.days older more zs c.args.today (map g.I.Read.remaining c.args.scripts.now) line) (g.I.Read.remaining c.args.inputs.now.set) (g.I.Read.remaining c.args.inputs.now.limits) (g.I.Read.remaining c.args.after.now) (g.I.Read.remaining c.args.journal.now) c.args.given c.args.besides.now.journal read.more is.are_taken
    (audited (g.I.Read.remaining c.args.inputs.now.set) (g.I.Read.remaining c.args.inputs.now.limits) (g.I.Read.remaining c.args.after.now) (g.I.Read.remaining c.args.journal.now) c.args.inputs.now.first c.args.inputs.now.days read.more c.args.today (map g.I.Read.remaining c.args.scripts.now)
    read.flights read.older read.core read.scripts read.scripts refl read.more refl is.are_read line c.in-Ok-compared_in.ensures.ok c.in-Ok-compared_in.ensures.asked)

pub returns-in-Ok-compared_in-clause-sealed : goal.returns-in-Ok-compared_in-clause-sealed
returns-in-Ok-compared_in-clause-sealed g c = c.in-Ok.ensures.ok.agree

pub compared_in-requires-clause-grid : goal.compared_in-requires-clause-grid
compared_in-requires-clause-grid g c = c.in-Ok.ensures.ok.one_grid

pub compared_in-requires-clause-few : goal.compared_in-requires-clause-few
compared_in-requires-clause-few g c = c.in-Ok.ensures.ok.few

pub compared_in-requires-clause-lines : goal.compared_in-requires-clause-lines
compared_in-requires-clause-lines g c = c.in-Ok.ensures.ok.few_lines
