use Rattle.std.proofs.Common.{◌≡◌, ◌≢◌, ℕ, ◌-◌, ◌≤◌, List, length, take, get_or, Result, arith, refl, ap, subst, sym, ◌∙◌}
use Rattle.std.specs.Prelude.{Err, Ok, IfErr, IfOk}
use Rattle.seat_journal.specs.declared.entry.Entry.{Entry}
use Rattle.seat_journal.specs.Text.{IsJournalText}
use Rattle.seat_desk.specs.AuditDesk.{most_journal_bytes}
use Rattle.seat_desk.specs.declared.fault.DeskFault.TheVariants.{Memory}
use Rattle.seat_questions.specs.Why.{IsExplained, IsUnreasoned}
use Rattle.seat_questions.proofs.Reasons.{explained_line, refused_below, refused_beyond, refused_past}
use Rattle.seat_questions.proofs.why.explained.Goals as goal
use Rattle.seat_questions.proofs.why.explained.Goals.{then-line-lt1-via-then-line-lt1, then-line-lt1-via-else-line-lt1+then-all-line}

-- what holds of a result gives what follows of it
if_ok : {A E : Type 0} {P Q : A → Type 0} (r : Result A E) → ((x : A) → P x → Q x) → IfOk r P → IfOk r Q
if_ok (Ok x) more p = more x p
if_ok (Err _) more p = tt

if_err : {A E : Type 0} {P Q : E → Type 0} (r : Result A E) → ((x : E) → P x → Q x) → IfErr r P → IfErr r Q
if_err (Ok _) more p = tt
if_err (Err x) more p = more x p

pub returns-then-line-lt1-clause-fault : goal.returns-then-line-lt1-clause-fault
returns-then-line-lt1-clause-fault g c =
    let lines = c.in-Some.lines.items in
    let is : IsJournalText c.args.bytes.items lines = subst (λ (b : List ℕ). IsJournalText b lines) c.deref.ensures.value c.in-Some.ensures in
    λ _. elim c.then-line-lt1.branch [
      | then-line-lt1-via-then-line-lt1 w ↦ refused_below c.args.grid c.args.line c.args.bytes.items lines c.requires is (omega (arith, w.if-line-lt1.true))
      | then-line-lt1-via-else-line-lt1+then-all-line w ↦ refused_beyond c.args.grid c.args.line c.args.bytes.items lines c.as_slice-all.result.now c.requires is c.as_slice-all.ensures.value (omega (arith, w.if-all-line.true))
    ]

pub explained_in_order-requires : goal.explained_in_order-requires
explained_in_order-requires g c = subst (λ (b : List ℕ). length b ≤ most_journal_bytes) (sym c.deref-in_default.ensures.value) c.requires

pub returns-in_default-clause-ok : goal.returns-in_default-clause-ok
returns-in_default-clause-ok g c =
    subst (λ (b : List ℕ). IfOk c.explained_in_order.result (λ text. IsExplained c.args.flights.now c.args.grid c.args.line b text.items)) c.deref-in_default.ensures.value
    c.explained_in_order.ensures.ok

pub returns-in_default-clause-fault : goal.returns-in_default-clause-fault
returns-in_default-clause-fault g c =
    subst (λ (b : List ℕ). IfErr c.explained_in_order.result (λ f. f ≢ Memory → IsUnreasoned c.args.grid c.args.line f b)) c.deref-in_default.ensures.value
    c.explained_in_order.ensures.fault

pub returns-in_default-clause-kind : goal.returns-in_default-clause-kind
returns-in_default-clause-kind g c = c.explained_in_order.ensures.kind

pub returns-clause-ok : goal.returns-clause-ok
returns-clause-ok g c =
    let lines = c.in-Some.lines.items in
    let is : IsJournalText c.args.bytes.items lines = subst (λ (b : List ℕ). IsJournalText b lines) c.deref.ensures.value c.in-Some.ensures in
    if_ok c.reasoned_in_parts.result
    (λ text reasoned. explained_line c.args.flights.now c.args.grid c.args.line (c.args.line - 1) c.args.bytes.items lines c.as_slice-all.result.now c.truncate.new.self.items
    c.in-Ok.entry text.items is c.as_slice-all.ensures.value (omega (arith, c.if-line-lt1.false)) (omega (arith, c.if-all-line.false)) refl
    (c.truncate.ensures.items ∙ ap (take (c.args.line - 1)) (sym c.as_slice-all.ensures.value)) (subst (λ (e : Entry). e ≡ get_or c.as_slice-all.result.now (c.args.line - 1) e) (sym c.in-Ok.ensures) c.index-all-at.is) reasoned) c.reasoned_in_parts.ensures.ok

pub returns-clause-fault : goal.returns-clause-fault
returns-clause-fault g c =
    let lines = c.in-Some.lines.items in
    let is : IsJournalText c.args.bytes.items lines = subst (λ (b : List ℕ). IsJournalText b lines) c.deref.ensures.value c.in-Some.ensures in
    if_err c.reasoned_in_parts.result
    (λ fault refused. refused_past c.args.grid c.args.line (c.args.line - 1) c.args.bytes.items lines c.as_slice-all.result.now c.truncate.new.self.items fault
    c.requires is c.as_slice-all.ensures.value (omega (arith, c.if-line-lt1.false)) (omega (arith, c.if-all-line.false)) refl
    (c.truncate.ensures.items ∙ ap (take (c.args.line - 1)) (sym c.as_slice-all.ensures.value)) refused) c.reasoned_in_parts.ensures.fault

pub returns-clause-kind : goal.returns-clause-kind
returns-clause-kind g c = c.reasoned_in_parts.ensures.kind
