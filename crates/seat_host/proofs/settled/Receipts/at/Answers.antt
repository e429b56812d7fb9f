use Rattle.std.proofs.Common.{List, ◌<◌, length, get_or, ap, ◌∙◌, sym, subst}
use Rattle.seat_journal.specs.declared.entry.Entry.{Entry}
use Rattle.seat_host.proofs.Numbers.{line_found, line_inside, line_number, line_there}
use Rattle.seat_host.proofs.settled.Receipts.at.Goals as goal

pub number_at-requires : goal.number_at-requires
number_at-requires c = line_inside c.self.inside.journal.now c.self.inside.numbers.now c.args.place c.self.invariant (subst (λ (l : List Entry). c.args.place < length l) (sym c.self.view_is) c.requires)

pub line_of-requires : goal.line_of-requires
line_of-requires c =
    let low : c.args.place < length c.self.inside.numbers.now = line_inside c.self.inside.journal.now c.self.inside.numbers.now c.args.place c.self.invariant (subst (λ (l : List Entry). c.args.place < length l) (sym c.self.view_is) c.requires) in
    line_number c.self.inside.journal.now c.number_at.result (line_there c.self.inside.journal.now c.self.inside.numbers.now c.args.place c.number_at.result c.self.invariant low c.number_at.ensures)

pub returns : goal.returns
returns c =
    let low : c.args.place < length c.self.inside.numbers.now = line_inside c.self.inside.journal.now c.self.inside.numbers.now c.args.place c.self.invariant (subst (λ (l : List Entry). c.args.place < length l) (sym c.self.view_is) c.requires) in
    line_found c.self.inside.journal.now c.self.inside.numbers.now c.args.place c.number_at.result c.line_of.result.now c.self.invariant low c.number_at.ensures c.line_of.ensures
    ∙ ap (λ (l : List Entry). get_or l c.args.place c.line_of.result.now) c.self.view_is
