use Rattle.carry_reports.proofs.Lining.{report_of}
use Rattle.carry_reports.proofs.reporting.text_of.Goals as goal

pub returns : goal.returns
returns c =
    report_of c.args.counts.now c.args.olds.now c.args.news.now c.args.all.now c.new-text.result.items c.put_lines.new.text.items c.put_sums.new.text.items
    c.new-text.ensures.items c.in_ok-put_lines.ensures c.in_ok-put_sums.ensures
