use Rattle.std.proofs.Common.{List, take, map, ap, ◌∙◌, sym, subst, ◌≤◌, length}
use Rattle.std.specs.List.{AllByRecursion}
use Rattle.seat_journal.specs.declared.entry.Entry.{Entry}
use Rattle.seat_host.specs.Outcome.{lines_at, AreLines}
use Rattle.seat_host.proofs.Numbers.{first_sessions, first_there, session_count}
use Rattle.seat_host.proofs.settled.AllReceipts.first.Goals as goal

pub first-requires : goal.first-requires
first-requires c = session_count c.self.inside.journal.now c.self.inside.numbers.now c.args.count (subst (λ (l : List (List Entry)). c.args.count ≤ length l) (sym c.self.view_is) c.requires)

pub invariant_of-result : goal.invariant_of-result
invariant_of-result c =
    subst (AllByRecursion (AreLines c.self.inside.journal.now)) (sym c.first.ensures) (first_there c.self.inside.journal.now c.self.inside.numbers.now c.args.count c.self.invariant)

pub returns : goal.returns
returns c =
    ap (map (lines_at c.self.inside.journal.now)) c.first.ensures ∙ first_sessions c.self.inside.journal.now c.self.inside.numbers.now c.args.count
    ∙ ap (take c.args.count) c.self.view_is
