use Rattle.season_changes.proofs.Comparisons.{text_put}
use Rattle.season_changes.proofs.comparing.written.Goals as goal

pub returns : goal.returns
returns c =
    text_put c.args.has_journal c.args.all.now c.new-text.result.items c.put_changes.new.text.items c.put_sums.new.text.items c.new-text.ensures.items
    c.in_ok-put_changes.ensures c.in_ok-put_sums.ensures
