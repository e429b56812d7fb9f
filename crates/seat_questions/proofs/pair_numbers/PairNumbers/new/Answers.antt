use Rattle.seat_questions.proofs.Numbering.{numbered_more}
use Rattle.seat_questions.proofs.pair_numbers.PairNumbers.new.Goals as goal

pub loop-i-preserved : goal.loop-i-preserved
loop-i-preserved c =
    let puts = rw c.pair_of.ensures at c.in_ok-put.ensures in
    numbered_more c.loop-i.last c.put.new.last c.args.rows.now c.loop-i.i c.index-rows-i.result c.loop-i.invariant c.loop-i-test.true c.index-rows-i.is puts
