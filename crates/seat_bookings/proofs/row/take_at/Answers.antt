use Rattle.std.proofs.Common.{◌+◌, drop, ap, refl, ◌∙◌}
use Rattle.seat_bookings.proofs.Live.Rows.{moved_up, taken_out}
use Rattle.seat_bookings.proofs.row.take_at.Goals as goal

pub returns-then-at-len-clause-items : goal.returns-then-at-len-clause-items
returns-then-at-len-clause-items c =
    let xs = c.args.all.now.items in
    let n = c.args.start in
    ap (drop (n + 1)) c.move_up.ensures.items ∙ moved_up xs n c.args.at (n + c.args.at) (n + 1) c.requires refl refl

pub returns-clause-items : goal.returns-clause-items
returns-clause-items c =
    let n = c.args.start in
    ap (drop n) c.remove.ensures.items ∙ taken_out c.args.all.now.items n c.args.at (n + c.args.at) c.requires refl
