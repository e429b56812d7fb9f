use Rattle.seatdesk.proofs.Rows.{row_itself, told_of_first}
use Rattle.seatdesk.proofs.told.told_of.Goals as goal

pub returns-then-not-is_empty : goal.returns-then-not-is_empty
returns-then-not-is_empty c = told_of_first c.args.line.now _ c.answer_row-answer.result.now _ c.in-len1-up.len_at_least c.if-not-is_empty.ensures
    (row_itself _ _ c.answer_row-answer.ensures) c.told_of_answer.ensures

pub returns-then-not-is_empty-2 : goal.returns-then-not-is_empty-2
returns-then-not-is_empty-2 c = told_of_first c.args.line.now _ c.row_for-row.result.now _ c.in-len1-up.len_at_least c.if-not-is_empty-2.ensures
    (row_itself _ _ c.row_for-row.ensures) c.details.ensures

pub returns-then-not-is_empty-3 : goal.returns-then-not-is_empty-3
returns-then-not-is_empty-3 c = told_of_first c.args.line.now _ c.other_row-other.result.now _ c.in-len1-up.len_at_least c.if-not-is_empty-3.ensures
    c.other_row-other.ensures c.alone.ensures
