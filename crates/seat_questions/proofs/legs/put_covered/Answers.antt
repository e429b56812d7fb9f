use Rattle.std.proofs.Common.{Result}
use Rattle.std.specs.Prelude.{Err, Ok, OnOk}
use Rattle.seat_rules.specs.Inventory.{state_now}
use Rattle.seat_questions.proofs.Standings.{standing_put}
use Rattle.seat_questions.proofs.legs.put_covered.Goals as goal

-- what a call that went well leaves gives what is left of both
on_ok : {A E : Type 0} {P Q : Type 0} (r : Result A E) → (P → Q) → OnOk r P → OnOk r Q
on_ok (Ok _) more put = more put
on_ok (Err _) more put = put

pub returns : goal.returns
returns c =
    on_ok c.put_standing.result
    (standing_put (state_now c.args.core.now) c.args.flight c.args.leg c.args.dated.now c.args.text.now.items c.put.new.text.items c.put_way.new.text.items
    c.put-2.new.text.items c.put_standing.new.text.items c.in_ok-put.ensures c.in_ok-put_way.ensures c.in_ok-put-2.ensures) c.put_standing.ensures
