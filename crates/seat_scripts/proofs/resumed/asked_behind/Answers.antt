use Rattle.std.proofs.Common.{List, subst, sym, ◌∙◌}
use Rattle.seat_journal.specs.declared.entry.Control.{Control}
use Rattle.seat_scripts.proofs.Common.{Request}
use Rattle.seat_scripts.specs.Resuming.{IsNoRest, IsRestOf}
use Rattle.seat_scripts.proofs.resumed.asked_behind.Goals as goal

pub returns-in-Err-clause-fault : goal.returns-in-Err-clause-fault
returns-in-Err-clause-fault c =
    let read = c.args.read in
    let wrong = c.in-Err in
    λ other. subst (λ (m : List Control). IsNoRest read.flights read.scripts m read.older.journal read.more read.core.journal wrong.fault) c.deref.ensures.value
    (wrong.ensures.fault other)

pub returns-in-Ok-clause-ok : goal.returns-in-Ok-clause-ok
returns-in-Ok-clause-ok c =
    let read = c.args.read in
    let made = c.args.made in
    let rest = c.in-Ok.rest in
    let went = c.gone_on.ensures in
    record {
      is_rest =
          subst (λ (s : List (List Request)). IsRestOf read.flights read.scripts made.changes.items read.older.journal read.more read.core.journal s c.gone_on.result.changes.items) (sym went.scripts)
          (subst (λ (m : List Control). IsRestOf read.flights read.scripts made.changes.items read.older.journal read.more read.core.journal rest.scripts m) (sym went.changes)
          (subst (λ (m : List Control). IsRestOf read.flights read.scripts m read.older.journal read.more read.core.journal rest.scripts rest.changes.items) c.deref.ensures.value
          c.in-Ok.ensures.ok));
      flights_are = went.flights;
      past_is = went.past;
      basis_is = went.basis;
      imprints_are = went.imprints;
      imprint_is = went.imprint;
      behind_is = went.behind ∙ c.in-Ok.ensures.behind;
      earlier_is = went.earlier;
    }
