use Rattle.std.proofs.Common.{arith}
use Rattle.seat_seal.specs.Rules.{IsNamed}
use Rattle.seat_seal.specs.Text.{run_text}
use Rattle.seat_seal.proofs.Lists.{each_more, text_more}
use Rattle.seat_seal.proofs.spelling.put_runs.Goals as goal

pub loop-run-preserved : goal.loop-run-preserved
loop-run-preserved c = record {
  text = text_more run_text c.args.runs.now c.loop-run.run-index c.run-item.result _ _ _ c.loop-run-test.true c.run-item.is c.loop-run.invariant.text c.put_run.ensures.text;
  room = omega (arith, c.loop-run.invariant.room, c.put_run.ensures.len);
  is = each_more IsNamed c.args.runs.now c.loop-run.run-index c.run-item.result c.loop-run-test.true c.run-item.is c.loop-run.invariant.is c.put_run.ensures.is;
}
