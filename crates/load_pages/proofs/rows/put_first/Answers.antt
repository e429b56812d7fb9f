use Rattle.load_pages.proofs.Rowing.{first_put}
use Rattle.load_pages.proofs.rows.put_first.Goals as goal

pub returns : goal.returns
returns c =
    first_put c.args.first c.args.load.now c.number.result c.number-2.result c.saturating_sub.result c.args.text.now.items c.put_mark.new.text.items
    c.put_name.new.text.items c.put_gap.new.text.items c.put_load.new.text.items
    c.saturating_sub.ensures c.number.ensures.value c.number-2.ensures.value c.in_ok-put_mark.ensures c.in_ok-put_name.ensures c.in_ok-put_gap.ensures c.in_ok-put_load.ensures
