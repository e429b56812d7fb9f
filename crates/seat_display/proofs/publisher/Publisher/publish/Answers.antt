use Rattle.std.proofs.Common.{◌≡◌, ◌++◌, true, ap, ◌∙◌, sym, drop, fold}
use Rattle.left_right.specs.Sides.{view}
use Rattle.seat_nesting.specs.Nesting.{Ladders}
use Rattle.seat_display.specs.Shown.{apply, entries_of, tidied}
use Rattle.seat_display.specs.History.{head_of}
use Rattle.seat_display.specs.declared.table.Table.{Table}
use Rattle.seat_display.specs.declared.table.View.{View}
use Rattle.seat_display.specs.declared.table.Op.TheVariants.{Mark}
use Rattle.seat_display.proofs.Steps.{applied_all, counted, follows_marked, ready_after}
use Rattle.seat_display.proofs.publisher.Publisher.publish.Goals as goal

pub turn-requires : goal.turn-requires
turn-requires g c =
    let s = c.self.inside in
    let grid : Ladders = (view s.writer.desk.place).grid in
    let shown : Table = s.writer.desk.shown.value in
    let ops = drop s.writer.behind s.writer.log.items in
    let r = c.self.invariant.3 in
    let desk = c.marked.ensures.desk in
    let now = c.marked.new.writer in
    let u : View = record { knows = true; grid = grid; seen = c.grown-next.result } in
    let y : Table = fold apply (tidied now.desk.shown.value) (drop now.behind now.log.items) in
    let all : y ≡ apply (counted grid shown (s.seen.log ++ entries_of ops)) (Mark u.seen) =
    (λ i. fold apply (tidied (desk i).shown.value) (c.marked.ensures.pending i)) ∙ applied_all grid shown s.seen.log ops _ _ r (Mark u.seen) in
    follows_marked grid shown s.seen.log ops _ _ r (view now.desk.place) u (ap (λ d. (view {V = View} d.place).knows) desk ∙ c.self.invariant.2) (ap (λ d. (view {V = View} d.place).grid) desk)
    c.grown-next.ensures.1 (c.grown-next.ensures.0 ∙ sym c.self.invariant.1) now.desk.shown.value y (ap (λ d. d.shown.value) desk) all

pub invariant_of-self : goal.invariant_of-self
invariant_of-self g c =
    let s = c.self.inside in
    let grid : Ladders = (view s.writer.desk.place).grid in
    let shown : Table = s.writer.desk.shown.value in
    let ops = drop s.writer.behind s.writer.log.items in
    let r = c.self.invariant.3 in
    let desk = c.marked.ensures.desk in
    let now = c.marked.new.writer in
    let u : View = record { knows = true; grid = grid; seen = c.grown-next.result } in
    let y : Table = fold apply (tidied now.desk.shown.value) (drop now.behind now.log.items) in
    let all : y ≡ apply (counted grid shown (s.seen.log ++ entries_of ops)) (Mark u.seen) =
    (λ i. fold apply (tidied (desk i).shown.value) (c.marked.ensures.pending i)) ∙ applied_all grid shown s.seen.log ops _ _ r (Mark u.seen) in
    let seen = ap (λ (t : Table). t.seen) c.turn.ensures.values.0 ∙ ap (λ (t : Table). t.seen) all in (
      c.self.invariant.0 ∙ ap head_of (sym c.grown-next.ensures.0),
      ap (λ t. t.book) seen,
      c.turn.ensures.sees.known.0,
      ready_after grid shown s.seen.log ops _ _ r _ c.grown-next.result.log _ _ c.grown-next.ensures.1 c.turn.ensures.sees.leaves (ap (λ t. t.log) seen) c.turn.ensures.values.1,
    )

pub returns : goal.returns
returns g c =
    let is = c.self.view_is in
    let desk = c.marked.ensures.desk in
    let knows = ap (λ d. (view {V = View} d.place).knows) desk ∙ c.self.invariant.2 in record {
      visible = (c.grown-next.ensures.1 ∙ ap (λ v. v.visible ++ v.pending) is, ap entries_of c.turn.ensures.values.1);
      same = (c.grown-next.ensures.0 ∙ ap (λ v. v.book) is, sym (c.turn.ensures.sees.before knows).0 ∙ ap (λ d. (view {V = View} d.place).grid) desk ∙ ap (λ v. v.grid) is);
    }
