use Rattle.std.proofs.Common.{arith}
use Rattle.seat_seal.specs.Rules.{IsScript}
use Rattle.seat_seal.specs.Text.{script_line}
use Rattle.seat_seal.proofs.Lists.{each_more, text_more}
use Rattle.seat_seal.proofs.spelling.put_scripts.Goals as goal

pub loop-script-preserved : goal.loop-script-preserved
loop-script-preserved c = record {
  text = text_more script_line c.args.scripts.now c.loop-script.script-index c.script-item.result _ _ _ c.loop-script-test.true c.script-item.is c.loop-script.invariant.text c.put_script.ensures.text;
  room = omega (arith, c.loop-script.invariant.room, c.put_script.ensures.len);
  is = each_more IsScript c.args.scripts.now c.loop-script.script-index c.script-item.result c.loop-script-test.true c.script-item.is c.loop-script.invariant.is c.put_script.ensures.is;
}
