use Rattle.std.proofs.Common.{◌≢◌, ◌≤◌, List, length, subst, sym}
use Rattle.std.specs.Result.{IfErr, OnOk}
use Rattle.airimp_lines.specs.declared.requests.Request.{Request}
use Rattle.seat_scripts.proofs.Common.{DeskFault, Memory, AreAskedBehind, IsUnasked}
use Rattle.seat_scripts.proofs.against.compared_in.Goals as goal

pub compared-requires-clause-few : goal.compared-requires-clause-few
compared-requires-clause-few c = subst (λ (s : List (List Request)). length s ≤ 8) (sym c.as_slice.ensures) c.requires.few

pub returns-clause-asked : goal.returns-clause-asked
returns-clause-asked c =
    let read = c.args.read in
    subst (λ (s : List (List Request)). OnOk c.compared.result (AreAskedBehind read.flights s read.older.journal read.more read.core.journal)) c.as_slice.ensures c.compared.ensures.asked

pub returns-clause-fault : goal.returns-clause-fault
returns-clause-fault c =
    let read = c.args.read in
    subst (λ (s : List (List Request)). IfErr c.compared.result (λ (f : DeskFault). f ≢ Memory → IsUnasked read.flights s read.older.journal read.more read.core.journal f)) c.as_slice.ensures c.compared.ensures.fault
