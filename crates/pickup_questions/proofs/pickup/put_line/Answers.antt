use Rattle.std.proofs.Common.{[], ◌∷◌, codes}
use Rattle.pickup_questions.specs.PickupRows.{sum_text}
use Rattle.pickup_questions.specs.declared.groups.Move.TheVariants.{Before, Sold, Cancelled, Confirmed, Held}
use Rattle.pickup_questions.proofs.PickedUp.{six_pieces}
use Rattle.pickup_questions.proofs.pickup.put_line.Goals as goal

pub returns : goal.returns
returns c =
    six_pieces c.args.text.now.items (sum_text (codes "SUMS before ") Before c.args.all.now) (sum_text (codes " sold ") Sold c.args.all.now)
    (sum_text (codes " cancelled ") Cancelled c.args.all.now) (sum_text (codes " confirmed ") Confirmed c.args.all.now) (sum_text (codes " held ") Held c.args.all.now) (10 ∷ [])
    c.put_sum.new.text.items c.put_sum-2.new.text.items c.put_sum-3.new.text.items c.put_sum-4.new.text.items c.put_sum-5.new.text.items c.put.new.text.items
    c.in_ok-put_sum.ensures c.in_ok-put_sum-2.ensures c.in_ok-put_sum-3.ensures c.in_ok-put_sum-4.ensures c.in_ok-put_sum-5.ensures c.in_ok-put.ensures
