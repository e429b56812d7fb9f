use Rattle.std.proofs.Common.{◌≤◌, List, drop, length, subst, sym}
use Rattle.std.specs.Result.{IfErr, IfOk}
use Rattle.airimp_lines.specs.declared.requests.Request.{Request}
use Rattle.seat_scripts.specs.Against.{AreAsked, IsUnasked}
use Rattle.seat_scripts.proofs.against.past_in.Goals as goal

pub past_lines-requires-clause-few : goal.past_lines-requires-clause-few
past_lines-requires-clause-few c = subst (λ (s : List (List Request)). length s ≤ 8) (sym c.as_slice.ensures) c.requires.few

pub returns-clause-asked : goal.returns-clause-asked
returns-clause-asked c =
    let read = c.args.read.now in
    subst (λ (s : List (List Request)). IfOk c.past_lines.result (λ past. AreAsked read.flights s (drop past read.core.journal))) c.as_slice.ensures c.past_lines.ensures.asked

pub returns-clause-fault : goal.returns-clause-fault
returns-clause-fault c =
    let read = c.args.read.now in
    subst (λ (s : List (List Request)). IfErr c.past_lines.result (IsUnasked read.flights s read.older.journal read.more read.core.journal)) c.as_slice.ensures c.past_lines.ensures.fault
