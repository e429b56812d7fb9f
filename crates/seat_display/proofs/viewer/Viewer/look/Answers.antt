use Rattle.std.proofs.Common.{◌≤◌, ◌∙◌, ap, subst, sym, List, length, arith}
use Rattle.seat_journal.specs.declared.entry.Entry.{Entry}
use Rattle.seat_nesting.specs.Nesting.{Ladders}
use Rattle.seat_rules.specs.Journal.{IsLegal}
use Rattle.seat_rules.specs.Prefixes.{Begins}
use Rattle.std.specs.Fn.{FnOnceReturnsAt}
use Rattle.seat_display.specs.Faces.{viewed}
use Rattle.seat_display.proofs.viewer.Viewer.look.Goals as goal

pub returns-clause-front : goal.returns-clause-front
returns-clause-front g c =
    let le : length c.self.inside.seen.log ≤ length c.in-Some.glance.seen.log = omega (arith, c.self.invariant.2, c.if-lines-self.false, c.in-Some.ensures.some.2) in
    subst (λ (l : List Entry). Begins l c.in-Some.glance.seen.log) (ap (λ v. v.front) c.self.view_is) (c.compare.ensures.first le)

pub compare-requires : goal.compare-requires
compare-requires g c = c.in-Some.ensures.some.0 ∙ c.self.invariant.1

pub returns-clause-legal : goal.returns-clause-legal
returns-clause-legal g c =
    subst (λ (limits : Ladders). IsLegal limits c.in-Some.glance.seen.log) (sym c.enter.ensures.same.1) c.in-Some.ensures.some.1

pub returns-clause-same : goal.returns-clause-same
returns-clause-same g c =
    (c.in-Some.ensures.some.0 ∙ (c.self.invariant.1 ∙ ap (λ v. v.book) c.self.view_is), c.enter.ensures.same.1 ∙ ap (λ v. v.grid) c.self.view_is)

pub invariant_of-self : goal.invariant_of-self
invariant_of-self g c =
    let legal = subst (λ (limits : Ladders). IsLegal limits c.self.inside.seen.log) (sym c.enter.ensures.same.1) c.self.invariant.3 in
    (c.enter.ensures.same.0, c.enter.ensures.same.2 ∙ c.self.invariant.1, c.self.invariant.2, legal)

pub returns-clause-found : goal.returns-clause-found
returns-clause-found g c =
    subst (λ (limits : Ladders). FnOnceReturnsAt g.F.FnOnce c.args.at (viewed c.in-Some.glance.seen.book limits c.in-Some.glance.seen.log) c.in-Some.glance.found) (sym c.enter.ensures.same.1) c.in-Some.ensures.some.3
