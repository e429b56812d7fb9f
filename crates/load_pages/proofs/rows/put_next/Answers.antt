use Rattle.load_pages.proofs.Rowing.{next_put}
use Rattle.load_pages.proofs.rows.put_next.Goals as goal

pub returns : goal.returns
returns c =
    next_put c.args.last.now c.args.load.now c.number.result c.number-2.result c.saturating_sub.result c.args.text.now.items c.put_gap.new.text.items
    c.put_load.new.text.items c.saturating_sub.ensures c.number.ensures.value c.number-2.ensures.value c.in_ok-put_gap.ensures c.in_ok-put_load.ensures
