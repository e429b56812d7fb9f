use Rattle.std.proofs.Common.{◌+◌, ◌<◌, ◌^◌, ◌++◌, ◌∷◌, [], ap, ◌∙◌, sym, subst, arith, length, drop}
use Rattle.left_right.specs.Sides.{view}
use Rattle.seat_rules.specs.Journal.{IsLegal}
use Rattle.seat_display.specs.Faces.{Published}
use Rattle.seat_display.specs.declared.table.View.{View}
use Rattle.seat_display.specs.Shown.{entries_of}
use Rattle.seat_display.proofs.Steps.{ready_append, entries-snoc}
use Rattle.seat_display.proofs.publisher.Publisher.append.Goals as goal

pub invariant_of-self : goal.invariant_of-self
invariant_of-self c =
    let s = c.self.inside in
    let e = c.args.entry in
    let a = c.in-Ok.ensures in
    let ops = drop s.writer.behind s.writer.log.items in
    let r = c.self.invariant.3 in
    let legal = subst (λ (v : Published). IsLegal v.grid ((v.visible ++ v.pending) ++ e ∷ [])) (sym c.self.view_is) c.requires.legal in
    let short : s.lines + s.more + 1 < 2 ^ 32 = omega (arith, r.lines, r.more, c.requires.short, ap (λ v. length v.visible) c.self.view_is, ap (λ v. length v.pending) c.self.view_is) in (
      c.self.invariant.0,
      ap (λ d. d.shown.value.seen.book) a.desk ∙ c.self.invariant.1,
      ap (λ d. (view {V = View} d.place).knows) a.desk ∙ c.self.invariant.2,
      rw (ap (λ d. (view {V = View} d.place).grid) a.desk, ap (λ d. d.shown.value) a.desk) (ready_append (view s.writer.desk.place).grid s.writer.desk.shown.value s.seen.log ops _ s.lines s.more e r a.pending legal short),
    )

pub returns-in-Ok-clause-pending : goal.returns-in-Ok-clause-pending
returns-in-Ok-clause-pending c =
    let e = c.args.entry in
    ap entries_of c.in-Ok.ensures.pending ∙ entries-snoc (drop c.self.inside.writer.behind c.self.inside.writer.log.items) e ∙ ap (λ v. v.pending ++ e ∷ []) c.self.view_is
