use Rattle.seat_rules.specs.Inventory.{state_now}
use Rattle.seat_tables.proofs.Putting.{put_more, put_none, put_whole}
use Rattle.table_questions.specs.SumRows.{pair_names, sums_of_pair}
use Rattle.table_questions.proofs.by_pair.put_pairs.Goals as goal

pub loop-i-init : goal.loop-i-init
loop-i-init c = put_none pair_names c.args.sheet.now c.requires.ready

pub loop-i-preserved : goal.loop-i-preserved
loop-i-preserved c =
    put_more pair_names (sums_of_pair c.args.asked.now (state_now c.args.core.now) c.args.flights.now) 0 c.loop-i.i c.args.pairs.now c.index-pairs-i.result c.args.sheet.now
    c.loop-i.sheet c.put_pair.new.sheet c.loop-i.invariant c.loop-i-test.true c.index-pairs-i.is c.in_ok-put_pair.ensures

pub returns : goal.returns
returns c =
    put_whole pair_names (sums_of_pair c.args.asked.now (state_now c.args.core.now) c.args.flights.now) 0 c.loop-i.i c.args.pairs.now c.args.sheet.now c.loop-i.sheet
    c.loop-i.invariant c.loop-i-test.false
