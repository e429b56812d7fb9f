use Rattle.std.proofs.Common.{drop, ap, ◌∙◌, sym}
use Rattle.std.proofs.Common.{subst}
use Rattle.seat_host.specs.Outcome.{lines_at, AreLines}
use Rattle.seat_host.proofs.Numbers.{all_behind, lines_behind}
use Rattle.seat_host.proofs.settled.Receipts.behind.Goals as goal

pub invariant_of-result : goal.invariant_of-result
invariant_of-result c = subst (AreLines c.self.inside.journal.now) (sym c.behind.ensures) (all_behind c.self.inside.journal.now c.self.inside.numbers.now c.args.count c.self.invariant)

pub returns : goal.returns
returns c =
    ap (lines_at c.self.inside.journal.now) c.behind.ensures ∙ lines_behind c.self.inside.journal.now c.self.inside.numbers.now c.args.count c.self.invariant
    ∙ ap (drop c.args.count) c.self.view_is
