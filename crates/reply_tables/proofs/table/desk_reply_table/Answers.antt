use Rattle.std.proofs.Common.{ℕ, List, drop, inr, map, subst, take}
use Rattle.std.proofs.lemmas.Result.{err_from_is_err_and}
use Rattle.std.specs.Io.KnownBytes.{Appends}
use Rattle.airline_base.specs.Noting.{TookFront}
use Rattle.seat_desk.specs.Desk.{IsOfInput}
use Rattle.reply_tables.proofs.Tabled.{tabled}
use Rattle.reply_tables.proofs.table.desk_reply_table.Goals as goal

pub returns-in_err-text-clause-fault : goal.returns-in_err-text-clause-fault
returns-in_err-text-clause-fault g c =
    let p = err_from_is_err_and c.from_residual-in_err-text.result c.from_residual-in_err-text.ensures.1 in
    rw (p.1, p.2) (λ input. absurd (subst IsOfInput c.in_err-text.ensures.memory input))

pub returns-in_err-text-clause-large : goal.returns-in_err-text-clause-large
returns-in_err-text-clause-large g c =
    let p = err_from_is_err_and c.from_residual-in_err-text.result c.from_residual-in_err-text.ensures.1 in
    rw (p.1, p.2) (λ large. absurd (c.in_err-text.ensures.kind.1 large))

pub returns-in_err-text-clause-device : goal.returns-in_err-text-clause-device
returns-in_err-text-clause-device g c =
    let p = err_from_is_err_and c.from_residual-in_err-text.result c.from_residual-in_err-text.ensures.1 in
    rw (p.1, p.2) (λ device. absurd (c.in_err-text.ensures.kind.0 device))

pub returns-in-Ok-clause-ok : goal.returns-in-Ok-clause-ok
returns-in-Ok-clause-ok g c =
    let read = c.in_ok-read.read in record {
      text = c.in_ok-text.text.items;
      right = tabled c.args.form c.args.besides.now.journal (g.I.Read.remaining c.args.inputs.now.set) (g.I.Read.remaining c.args.inputs.now.limits) (g.I.Read.remaining c.args.after.now) c.args.given (g.I.Read.remaining c.args.journal.now)
          c.args.inputs.now.first c.args.inputs.now.days c.args.today (map g.I.Read.remaining c.args.scripts.now) c.args.wanted c.in_ok-text.text.items
          read.flights read.scripts (take read.past read.core.journal) (drop read.past read.core.journal) c.in_ok-read.ensures.ok c.in_ok-text.ensures.ok;
      written = subst (λ (l : List ℕ). Appends (g.W.Write.contents c.args.out.now) (g.W.Write.contents c.put_all.new.out) l) c.deref.ensures.value c.in-Ok.ensures.ok;
    }

pub returns-clause-device : goal.returns-clause-device
returns-clause-device g c =
    let read = c.in_ok-read.read in
    λ _. inr (record {
      counted = c.in-Err.ensures.device;
      text = c.in_ok-text.text.items;
      right = tabled c.args.form c.args.besides.now.journal (g.I.Read.remaining c.args.inputs.now.set) (g.I.Read.remaining c.args.inputs.now.limits) (g.I.Read.remaining c.args.after.now) c.args.given (g.I.Read.remaining c.args.journal.now)
          c.args.inputs.now.first c.args.inputs.now.days c.args.today (map g.I.Read.remaining c.args.scripts.now) c.args.wanted c.in_ok-text.text.items
          read.flights read.scripts (take read.past read.core.journal) (drop read.past read.core.journal) c.in_ok-read.ensures.ok c.in_ok-text.ensures.ok;
      begun = subst (λ (l : List ℕ). TookFront (g.W.Write.contents c.args.out.now) (g.W.Write.contents c.put_all.new.out) l) c.deref.ensures.value c.in-Err.ensures.front;
    })
