use Rattle.std.proofs.Common.{ℕ, ◌+◌, ap, ◌∙◌}
use Rattle.seat_rules.specs.Journal.{calls_of, next_line}
use Rattle.seat_questions.specs.Why.{right_session}
use Rattle.seat_questions.proofs.why.right_line.Goals as goal

pub returns-in-Ok-clause-line : goal.returns-in-Ok-clause-line
returns-in-Ok-clause-line c =
    let grid = c.args.core.now.grid in
    let past = c.args.core.now.journal in
    let e = c.args.entry.now in
    let call = c.calls_of-call.ensures.value ∙ ap (calls_of past) c.right_session-session.ensures.value in
    c.in-Ok.ensures.line
    ∙ ap (λ (n : ℕ). next_line grid past c.right_session-session.result (n + 1) e.work) call
    ∙ ap (λ (s : ℕ). next_line grid past s (calls_of past (right_session e) + 1) e.work) c.right_session-session.ensures.value
