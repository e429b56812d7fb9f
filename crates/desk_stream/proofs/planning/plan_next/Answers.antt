use Rattle.std.proofs.Common.{◌≡◌, ◌∙◌, List, None, Some, ap, sym}
use Rattle.std.specs.Prelude.{slice_get}
use Rattle.seat_journal.specs.declared.entry.Entry.{Entry}
use Rattle.desk_stream.proofs.Plans.{ahead_planned, ahead_strange, live_planned, right_none}
use Rattle.desk_stream.proofs.planning.plan_next.Goals as goal

pub returns-in-Ok-clause-plans : goal.returns-in-Ok-clause-plans
returns-in-Ok-clause-plans g c =
    let at : slice_get c.args.serving.now.journal c.args.pending.now.progress.lines ≡ Some c.in-Some.line.now =
    ap (λ (l : List Entry). slice_get l c.args.pending.now.progress.lines) (sym c.journal.ensures.value) ∙ c.in-Some.ensures.found in
    ahead_planned c.args.flights.now c.args.serving.now.grid c.args.serving.now.cap c.args.serving.now.journal c.args.pending.now.asked.items
    c.args.called.now c.args.pending.now.progress c.in-Some.line.now c.in-Ok.plan at c.in-Ok.ensures.plans

pub returns-in-Ok-clause-right : goal.returns-in-Ok-clause-right
returns-in-Ok-clause-right g c = right_none c.args.serving.now c.args.pending.now c.in-Ok.plan c.in-Ok.ensures.none

pub returns-in-Err-clause-strange : goal.returns-in-Err-clause-strange
returns-in-Err-clause-strange g c =
    let at : slice_get c.args.serving.now.journal c.args.pending.now.progress.lines ≡ Some c.in-Some.line.now =
    ap (λ (l : List Entry). slice_get l c.args.pending.now.progress.lines) (sym c.journal.ensures.value) ∙ c.in-Some.ensures.found in
    ahead_strange c.args.flights.now c.args.serving.now.grid c.args.serving.now.cap c.args.serving.now.journal c.args.pending.now.asked.items
    c.args.called.now c.args.pending.now.progress c.in-Some.line.now at c.in-Err.ensures.strange

pub returns-in-None-clause-plans : goal.returns-in-None-clause-plans
returns-in-None-clause-plans g c =
    let none : slice_get c.args.serving.now.journal c.args.pending.now.progress.lines ≡ None =
    ap (λ (l : List Entry). slice_get l c.args.pending.now.progress.lines) (sym c.journal.ensures.value) ∙ c.in-None.ensures.none in
    live_planned c.args.flights.now c.args.serving.now.grid c.args.serving.now.cap c.args.serving.now.journal c.args.pending.now.asked.items
    c.args.called.now c.args.pending.now.progress c.plan_live.result none c.requires.waiting.come c.plan_live.ensures.plans

pub returns-in-None-clause-right : goal.returns-in-None-clause-right
returns-in-None-clause-right g c = c.plan_live.ensures.right
