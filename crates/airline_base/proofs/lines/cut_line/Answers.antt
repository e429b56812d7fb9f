use Rattle.std.proofs.Common.{◌∙◌, ◌+◌, [], sym}
use Rattle.std.proofs.lemmas.List.{take_rest}
use Rattle.airline_base.proofs.LineCuts.{cut_at, cut_none, cut_lines, cut_shorter}
use Rattle.airline_base.proofs.lines.cut_line.Goals as goal

pub returns-in_default-clause-value : goal.returns-in_default-clause-value
returns-in_default-clause-value c = cut_none c.args.bytes.now (sym c.in_default.is ∙ c.line_end.ensures)

pub returns-in_default-clause-lines : goal.returns-in_default-clause-lines
returns-in_default-clause-lines c = cut_lines c.args.bytes.now c.args.bytes.now [] (returns-in_default-clause-value c)

pub returns-in_default-clause-shorter : goal.returns-in_default-clause-shorter
returns-in_default-clause-shorter c = cut_shorter c.args.bytes.now c.args.bytes.now [] (returns-in_default-clause-value c)

pub returns-clause-value : goal.returns-clause-value
returns-clause-value c = rw (take_rest c.args.bytes.now (c.in-Some.end + 1)) (cut_at c.args.bytes.now c.in-Some.end c.without_return.result.now (sym c.in-Some.is ∙ c.line_end.ensures) c.without_return.ensures)

pub returns-clause-lines : goal.returns-clause-lines
returns-clause-lines c = cut_lines c.args.bytes.now c.without_return.result.now _ (returns-clause-value c)

pub returns-clause-shorter : goal.returns-clause-shorter
returns-clause-shorter c = cut_shorter c.args.bytes.now c.without_return.result.now _ (returns-clause-value c)
