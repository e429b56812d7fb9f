use Rattle.season_changes.proofs.Lines.{line_put}
use Rattle.season_changes.proofs.line.put_line.Goals as goal

pub returns : goal.returns
returns c =
    line_put c.args.has_journal c.args.change.now c.args.text.now.items c.put_what.new.text.items c.put_designator.new.text.items c.put.new.text.items
    c.put-2.new.text.items c.put_seats.new.text.items c.put-3.new.text.items c.bytes.result c.in_ok-put_what.ensures c.in_ok-put_designator.ensures
    c.in_ok-put.ensures c.bytes.ensures c.in_ok-put-2.ensures c.in_ok-put_seats.ensures c.in_ok-put-3.ensures
