use Rattle.seat_questions.proofs.Covers.{sums_put}
use Rattle.seat_questions.proofs.cover.put_sums.Goals as goal

pub returns : goal.returns
returns c =
    sums_put c.args.a c.args.b c.args.c c.args.d c.args.text.now.items c.put.new.text.items c.put_share.new.text.items c.put-2.new.text.items c.put_share-2.new.text.items c.put-3.new.text.items
    c.in_ok-put.ensures c.in_ok-put_share.ensures c.in_ok-put-2.ensures c.in_ok-put_share-2.ensures c.in_ok-put-3.ensures
