use Rattle.carry_reports.proofs.Lining.{line_put}
use Rattle.carry_reports.proofs.line.put_line.Goals as goal

pub returns : goal.returns
returns c =
    line_put c.args.counts.now c.args.olds.now c.args.news.now c.args.fated.now c.args.text.now.items c.put_old.new.text.items c.put.new.text.items c.put_new.new.text.items c.put-2.new.text.items
    c.in_ok-put_old.ensures c.in_ok-put.ensures c.in_ok-put_new.ensures c.in_ok-put-2.ensures
