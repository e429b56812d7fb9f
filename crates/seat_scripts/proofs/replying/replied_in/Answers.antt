use Rattle.std.proofs.Common.{◌≢◌, ◌≤◌, List, length, subst, sym}
use Rattle.std.specs.Result.{IfErr, IfOk}
use Rattle.airimp_lines.specs.declared.requests.Request.{Request}
use Rattle.seat_scripts.proofs.Common.{DeskFault, Memory, IsUnasked}
use Rattle.seat_scripts.specs.Replying.{AreRepliesBehind}
use Rattle.seat_scripts.proofs.replying.replied_in.Goals as goal

pub replied-requires-clause-few : goal.replied-requires-clause-few
replied-requires-clause-few c = subst (λ (s : List (List Request)). length s ≤ 8) (sym c.as_slice.ensures) c.requires.few

pub returns-clause-ok : goal.returns-clause-ok
returns-clause-ok c =
    let read = c.args.read in
    subst (λ (s : List (List Request)). IfOk c.replied.result (λ text. AreRepliesBehind read.flights s read.older.journal read.more read.core.journal c.args.wanted text.items)) c.as_slice.ensures c.replied.ensures.ok

pub returns-clause-fault : goal.returns-clause-fault
returns-clause-fault c =
    let read = c.args.read in
    subst (λ (s : List (List Request)). IfErr c.replied.result (λ (f : DeskFault). f ≢ Memory → IsUnasked read.flights s read.older.journal read.more read.core.journal f)) c.as_slice.ensures c.replied.ensures.fault
