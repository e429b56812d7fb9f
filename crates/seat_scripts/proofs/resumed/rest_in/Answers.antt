use Rattle.std.proofs.Common.{◌≢◌, ◌≤◌, List, length, subst, sym}
use Rattle.std.specs.Result.{IfErr, IfOk}
use Rattle.airimp_lines.specs.declared.requests.Request.{Request}
use Rattle.seat_scripts.proofs.Common.{DeskFault, Memory}
use Rattle.seat_scripts.specs.Resuming.{IsNoRest, IsRestOf}
use Rattle.seat_scripts.proofs.resumed.rest_in.Goals as goal

pub rest_of-requires-clause-few : goal.rest_of-requires-clause-few
rest_of-requires-clause-few c = subst (λ (s : List (List Request)). length s ≤ 8) (sym c.as_slice.ensures) c.requires.few

pub returns-clause-ok : goal.returns-clause-ok
returns-clause-ok c =
    let read = c.args.read.now in
    subst (λ (s : List (List Request)). IfOk c.rest_of.result (λ r. IsRestOf read.flights s c.args.changes.now read.older.journal read.more read.core.journal r.scripts r.changes.items)) c.as_slice.ensures c.rest_of.ensures.ok

pub returns-clause-fault : goal.returns-clause-fault
returns-clause-fault c =
    let read = c.args.read.now in
    subst (λ (s : List (List Request)). IfErr c.rest_of.result (λ (f : DeskFault). f ≢ Memory → IsNoRest read.flights s c.args.changes.now read.older.journal read.more read.core.journal f)) c.as_slice.ensures c.rest_of.ensures.fault
