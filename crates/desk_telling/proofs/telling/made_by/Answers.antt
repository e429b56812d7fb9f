use Rattle.std.proofs.Common.{◌∙◌, Bool, Option, None, ap, sym, eq-eqb, ne_eqb, if◌then◌else◌}
use Rattle.seat_journal.specs.declared.entry.Entry.{Entry}
use Rattle.desk_telling.specs.Telling.{asked_by, command_in}
use Rattle.desk_telling.proofs.telling.made_by.Goals as goal

pub returns : goal.returns
returns c =
    let line : Entry = c.in_ok-made.made.now in
    c.command_in.ensures
    ∙ sym (ap (λ (o : Option Entry). asked_by c.args.desk o) c.in_ok-made.ensures.found
    ∙ ap (λ (own : Bool). if own then command_in line.work else None) (eq-eqb line.session c.args.desk c.if-made-desk.false))

pub returns-then-made-desk : goal.returns-then-made-desk
returns-then-made-desk c =
    let line : Entry = c.in_ok-made.made.now in
    sym (ap (λ (o : Option Entry). asked_by c.args.desk o) c.in_ok-made.ensures.found
    ∙ ap (λ (own : Bool). if own then command_in line.work else None) (ne_eqb line.session c.args.desk c.if-made-desk.true))

pub returns-in_err-made : goal.returns-in_err-made
returns-in_err-made c = c.from_residual.ensures ∙ sym (ap (λ (o : Option Entry). asked_by c.args.desk o) c.in_err-made.ensures.none)
