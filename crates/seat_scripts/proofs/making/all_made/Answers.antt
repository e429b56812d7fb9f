use Rattle.seat_journal.specs.Controls.{set_by}
use Rattle.std.proofs.Common.{◌≡◌, ◌+◌, ℕ, Some, map, subst, sym, take}
use Rattle.std.specs.Prelude.{slice_get}
use Rattle.seat_scripts.proofs.Comparing.{untold}
use Rattle.seat_scripts.proofs.Made.{MadeSoFar, made_all, made_other, made_own, other_here}
use Rattle.seat_scripts.proofs.making.all_made.Goals as goal
use Rattle.seat_scripts.proofs.making.all_made.Goals.{then-entry-eq0+else-not-is_made, else-entry-eq0}

pub returns-then-not-is_made-clause-other : goal.returns-then-not-is_made-clause-other
returns-then-not-is_made-clause-other c =
    other_here c.args.changes.now c.args.lines.now c.loop-entry.calls c.loop-entry.entry-index c.entry-item.result c.loop-entry-test.true c.entry-item.is c.loop-entry.invariant
    c.if-entry-eq0.true (untold c.is_made.result (slice_get (map set_by c.args.changes.now) c.loop-entry.calls ≡ Some c.entry-item.result.work) c.if-not-is_made.true c.is_made.ensures.1)

pub loop-entry-preserved : goal.loop-entry-preserved
loop-entry-preserved c =
    let so_far : ℕ → Type 0 = λ n. MadeSoFar c.args.changes.now n (take (c.loop-entry.entry-index + 1) c.args.lines.now) in
    elim c.if-entry-eq0.branch [
      | then-entry-eq0+else-not-is_made w ↦ subst so_far (sym w.calls-is)
          (made_own c.args.changes.now c.args.lines.now c.loop-entry.calls c.loop-entry.entry-index c.entry-item.result c.loop-entry-test.true c.entry-item.is c.loop-entry.invariant
          w.if-entry-eq0.true (w.is_made.ensures.0 w.if-not-is_made.false))
      | else-entry-eq0 w ↦ subst so_far (sym w.calls-is)
          (made_other c.args.changes.now c.args.lines.now c.loop-entry.calls c.loop-entry.entry-index c.entry-item.result c.loop-entry-test.true c.entry-item.is c.loop-entry.invariant
          w.if-entry-eq0.false)
    ]

pub returns-clause-ok : goal.returns-clause-ok
returns-clause-ok c =
    made_all c.args.changes.now c.args.lines.now c.loop-entry.calls c.loop-entry.entry-index c.loop-entry-test.false c.loop-entry.invariant
