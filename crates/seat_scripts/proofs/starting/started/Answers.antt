use Rattle.std.proofs.Common.{IfSome, refl, subst, sym}
use Rattle.seat_desk.specs.Loading.{IsGridOf, IsLoadedOf}
use Rattle.seat_replies.specs.Going.{IsPast}
use Rattle.seat_scripts.proofs.Common.{Ladders}
use Rattle.seat_scripts.proofs.Seals.{agrees}
use Rattle.seat_scripts.proofs.Starts.{no_load, no_past}
use Rattle.seat_scripts.proofs.starting.started.Goals as goal

pub returns-in-Err-clause-none : goal.returns-in-Err-clause-none
returns-in-Err-clause-none g c =
    no_load g.I.Read.remaining g.I.Read.remaining c.args.inputs.now (g.I.Read.remaining c.args.after.now) c.args.beside.now _ _ c.in-Err.fault
    c.in-Err.ensures.fault c.in-Err.ensures.first_large c.in-Err.ensures.first_failed

pub returns-clause-none : goal.returns-clause-none
returns-clause-none g c =
    let based = c.in-Ok.based in
    no_past g.I.Read.remaining g.I.Read.remaining c.args.inputs.now (g.I.Read.remaining c.args.after.now) c.args.beside.now _ _ c.in-Err-replayed_beside.fault
    based.loaded.flights based.loaded.grid based.basis c.in-Ok.ensures.ok (c.in-Ok.ensures.basis refl)
    c.in-Err-replayed_beside.ensures.fault c.in-Err-replayed_beside.ensures.large c.in-Err-replayed_beside.ensures.device

pub returns-in-Ok-replayed_beside-clause-ok : goal.returns-in-Ok-replayed_beside-clause-ok
returns-in-Ok-replayed_beside-clause-ok g c =
    let based = c.in-Ok.based in
    let loaded = based.loaded in
    let read = c.in-Ok-replayed_beside.ensures in
    let grid = sym read.grid in
    record {
      is_loaded = subst (λ (l : Ladders). IsLoadedOf g.I.Read.remaining g.I.Read.remaining c.args.inputs.now loaded.flights l) grid c.in-Ok.ensures.ok;
      is_past = subst (λ (l : Ladders). IfSome (g.I.Read.remaining c.args.after.now) (IsPast l c.in-Ok-replayed_beside.read.past.journal)) grid read.past;
      agree = agrees (g.I.Read.remaining c.args.inputs.now.set) (g.I.Read.remaining c.args.inputs.now.limits) (g.I.Read.remaining c.args.after.now) c.args.inputs.now.first c.args.inputs.now.days
          loaded.flights loaded.grid c.args.beside.now based.basis c.in-Ok.ensures.ok (c.in-Ok.ensures.basis refl) read.sealed;
      is_known = read.last;
      is_basis = c.in-Ok.ensures.basis refl;
      is_grid = subst (λ (l : Ladders). IsGridOf loaded.flights l) grid c.in-Ok.ensures.grid;
      is_legal = read.legal;
      most = read.cap;
    }
