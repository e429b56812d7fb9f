use Rattle.std.proofs.Common.{◌≡◌, ℕ, ◌+◌, ◌++◌, ◌∷◌, [], ap, subst, ◌∙◌}
use Rattle.seat_journal.specs.declared.entry.Entry.{Entry}
use Rattle.seat_rules.specs.Journal.{calls_of, next_line}
use Rattle.seat_core.specs.Balances.{grid_of, Leave}
use Rattle.seat_reports.specs.LadderDesk.{line_for}
use Rattle.seat_reports.proofs.ladder.put_reply.Goals as goal

pub returns-in-Ok-put_entry-clause-left : goal.returns-in-Ok-put_entry-clause-left
returns-in-Ok-put_entry-clause-left c = λ past left.
    let grid = grid_of c.args.balance.now in
    let w = c.args.order in
    let is : c.in-Ok.entry ≡ line_for grid past w =
    c.in-Ok.ensures.line.line past left ∙ ap (λ (s : ℕ). next_line grid past s (calls_of past s + 1) w) c.asker.ensures.value in
    let P : Entry → Type 0 = λ e. Leave (past ++ e ∷ []) c.answer_next.new.self in
    subst P is (c.in-Ok.ensures.taken.left past left)
