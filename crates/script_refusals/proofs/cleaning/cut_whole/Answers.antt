use Rattle.std.proofs.Common.{sym, ◌∙◌}
use Rattle.script_refusals.proofs.Taking.{cut_found}
use Rattle.script_refusals.proofs.cleaning.cut_whole.Goals as goal

pub returns-in-Some-clause-lines : goal.returns-in-Some-clause-lines
returns-in-Some-clause-lines c some =
    cut_found c.args.bytes.now c.split_at.result.0.now c.split_at.result.1.now c.in-Some.end (sym c.in-Some.is ∙ c.line_end.ensures) c.split_at.ensures.front c.split_at.ensures.back some
