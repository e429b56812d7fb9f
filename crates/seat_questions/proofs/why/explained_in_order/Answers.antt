use Rattle.std.proofs.Common.{◌≢◌, ◌-◌, take, Result, arith, refl, subst, sym}
use Rattle.std.specs.Prelude.{Err, Ok, IfErr, IfOk}
use Rattle.seat_desk.specs.declared.fault.DeskFault.{DeskFault}
use Rattle.seat_desk.specs.declared.fault.DeskFault.TheVariants.{Memory}
use Rattle.seat_questions.specs.Why.{IsUnreasoned}
use Rattle.seat_questions.proofs.Reasons.{explained_line, refused_below, refused_beyond, refused_past, refused_text}
use Rattle.seat_questions.proofs.why.explained_in_order.Goals as goal
use Rattle.seat_questions.proofs.why.explained_in_order.Goals.{then-line-lt1-via-then-line-lt1, then-line-lt1-via-else-line-lt1+then-lines-line}

-- what holds of a result gives what follows of it
if_ok : {A E : Type 0} {P Q : A → Type 0} (r : Result A E) → ((x : A) → P x → Q x) → IfOk r P → IfOk r Q
if_ok (Ok x) more p = more x p
if_ok (Err _) more p = tt

if_err : {A E : Type 0} {P Q : E → Type 0} (r : Result A E) → ((x : E) → P x → Q x) → IfErr r P → IfErr r Q
if_err (Ok _) more p = tt
if_err (Err x) more p = more x p

pub returns-in-Err-clause-fault : goal.returns-in-Err-clause-fault
returns-in-Err-clause-fault c =
    subst (λ (f : DeskFault). f ≢ Memory → IsUnreasoned c.args.grid c.args.line f c.args.bytes.now) (sym c.of_journal.ensures)
    (refused_text c.args.grid c.args.line c.args.bytes.now c.in-Err.fault c.requires c.in-Err.ensures.fault c.in-Err.ensures.only)

pub returns-then-line-lt1-clause-fault : goal.returns-then-line-lt1-clause-fault
returns-then-line-lt1-clause-fault c = λ _. elim c.then-line-lt1.branch [
  | then-line-lt1-via-then-line-lt1 w ↦ refused_below c.args.grid c.args.line c.args.bytes.now c.in-Ok.entries c.requires c.in-Ok.ensures.found (omega (arith, w.if-line-lt1.true))
  | then-line-lt1-via-else-line-lt1+then-lines-line w ↦ refused_beyond c.args.grid c.args.line c.args.bytes.now c.in-Ok.entries c.as_slice-lines.result.now c.requires c.in-Ok.ensures.found c.as_slice-lines.ensures (omega (arith, w.if-lines-line.true))
]

pub returns-clause-ok : goal.returns-clause-ok
returns-clause-ok c =
    if_ok c.reasoned.result
    (λ text reasoned. explained_line c.args.flights.now c.args.grid c.args.line (c.args.line - 1) c.args.bytes.now c.in-Ok.entries c.as_slice-lines.result.now (take (c.args.line - 1) c.as_slice-lines.result.now)
    c.index-lines-at.result text.items c.in-Ok.ensures.found c.as_slice-lines.ensures (omega (arith, c.if-line-lt1.false)) (omega (arith, c.if-lines-line.false)) refl
    refl c.index-lines-at.is reasoned) c.reasoned.ensures.ok

pub returns-clause-fault : goal.returns-clause-fault
returns-clause-fault c =
    if_err c.reasoned.result
    (λ fault refused. refused_past c.args.grid c.args.line (c.args.line - 1) c.args.bytes.now c.in-Ok.entries c.as_slice-lines.result.now (take (c.args.line - 1) c.as_slice-lines.result.now) fault
    c.requires c.in-Ok.ensures.found c.as_slice-lines.ensures (omega (arith, c.if-line-lt1.false)) (omega (arith, c.if-lines-line.false)) refl
    refl refused) c.reasoned.ensures.fault
